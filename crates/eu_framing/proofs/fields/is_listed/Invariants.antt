use Rattle.std.proofs.Common.{◌≡◌, ℕ, List, take, map}
use Rattle.std.specs.List.{list_any}
use Rattle.httparse.specs.Spans.{header_bytes}
use Rattle.eu_framing.specs.Fields.{values_of, has_member}
use Rattle.eu_framing.proofs.fields.is_listed.Given as goal

abbrev pub invariant-loop-header : goal.invariant-loop-header
invariant-loop-header l = l.found ≡ list_any (λ (v : List ℕ). has_member v l.member) (values_of l.name (map (header_bytes l.text) (take l.header-index l.headers)))
