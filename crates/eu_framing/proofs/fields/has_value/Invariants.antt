use Rattle.std.proofs.Common.{◌≡◌, ℕ, List, take, map}
use Rattle.std.specs.List.{list_any}
use Rattle.std.proofs.Common.{bytes_eq}
use Rattle.httparse.specs.Spans.{header_bytes}
use Rattle.eu_framing.specs.Fields.{values_of}
use Rattle.eu_framing.proofs.fields.has_value.Given as goal

abbrev pub invariant-loop-header : goal.invariant-loop-header
invariant-loop-header l = l.found ≡ list_any (λ (v : List ℕ). bytes_eq v l.value) (values_of l.name (map (header_bytes l.text) (take l.header-index l.headers)))
