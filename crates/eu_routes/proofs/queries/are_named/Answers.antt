use Rattle.std.proofs.Common.{◌≡◌, ◌∙◌, ap, sym}
use Rattle.std.specs.Str.{bytes_eq}
use Rattle.eu_routes.proofs.QueryLemmas.{named_stands, plain_stands}
use Rattle.eu_routes.specs.Query.{name_of, text_of}
use Rattle.eu_routes.proofs.queries.are_named.Goals as goal
use Rattle.eu_routes.proofs.queries.are_named.Goals.{then-is_one-via-then-is_one, then-is_one-via-else-is_one+then-is_other, then-is_one-via-else-is_one+else-is_other+then-is_plain}

pub returns-then-is_one-clause-one : goal.returns-then-is_one-clause-one
returns-then-is_one-clause-one c =
    let one = c.as_bytes.ensures.value ∙ c.name.ensures in
    let stands : text_of c.args.bytes.now ≡ c.args.bytes.now = elim c.then-is_one.branch [
      | then-is_one-via-then-is_one w ↦ named_stands c.args.bytes.now _ c.args.one _ one c.eq-is_one.ensures w.if-is_one.true
      | then-is_one-via-else-is_one+then-is_other w ↦ named_stands c.args.bytes.now _ c.args.other _ (c.as_bytes-2.ensures.value ∙ c.name-2.ensures) c.eq-is_other.ensures w.if-is_other.true
      | then-is_one-via-else-is_one+else-is_other+then-is_plain w ↦ plain_stands c.args.bytes.now (w.is_plain.ensures w.if-is_plain.true)
    ] in
    c.eq-is_one.ensures ∙ ap (bytes_eq c.args.bytes.now) one ∙ sym (ap (λ b. bytes_eq b (name_of c.args.one)) stands)

pub returns-then-is_one-clause-other : goal.returns-then-is_one-clause-other
returns-then-is_one-clause-other c =
    let other = c.as_bytes-2.ensures.value ∙ c.name-2.ensures in
    let stands : text_of c.args.bytes.now ≡ c.args.bytes.now = elim c.then-is_one.branch [
      | then-is_one-via-then-is_one w ↦ named_stands c.args.bytes.now _ c.args.one _ (c.as_bytes.ensures.value ∙ c.name.ensures) c.eq-is_one.ensures w.if-is_one.true
      | then-is_one-via-else-is_one+then-is_other w ↦ named_stands c.args.bytes.now _ c.args.other _ other c.eq-is_other.ensures w.if-is_other.true
      | then-is_one-via-else-is_one+else-is_other+then-is_plain w ↦ plain_stands c.args.bytes.now (w.is_plain.ensures w.if-is_plain.true)
    ] in
    c.eq-is_other.ensures ∙ ap (bytes_eq c.args.bytes.now) other ∙ sym (ap (λ b. bytes_eq b (name_of c.args.other)) stands)
