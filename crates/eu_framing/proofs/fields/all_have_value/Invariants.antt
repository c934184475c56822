use Rattle.std.proofs.Common.{◌≡◌, ℕ, List, take, map}
use Rattle.std.specs.List.{list_all}
use Rattle.std.proofs.Common.{bytes_eq}
use Rattle.httparse.specs.Spans.{header_bytes}
use Rattle.eu_framing.specs.Fields.{values_of}
use Rattle.eu_framing.proofs.fields.all_have_value.Given as goal

abbrev pub invariant-loop-header : goal.invariant-loop-header
invariant-loop-header l = l.all ≡ list_all (λ (v : List ℕ). bytes_eq v l.value) (values_of l.name (map (header_bytes l.text) (take l.header-index l.headers)))
