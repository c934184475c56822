use Rattle.std.proofs.Common.{◌≡◌, take, map}
use Rattle.httparse.specs.Spans.{header_bytes}
use Rattle.eu_framing.specs.Fields.{values_of}
use Rattle.eu_framing.proofs.fields.find_values.Given as goal

abbrev pub invariant-loop-header : goal.invariant-loop-header
invariant-loop-header l = map (λ v. v.items) l.found.items ≡ values_of l.name (map (header_bytes l.text) (take l.header-index l.headers))
