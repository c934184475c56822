use Rattle.std.proofs.Common.{List, ℕ, sym, get_or}
use Rattle.std.specs.List.{list_any}
use Rattle.std.proofs.lemmas.List.{map_more}
use Rattle.httparse.specs.Spans.{header_bytes}
use Rattle.httparse.specs.declared.spans.HeaderSpan.{HeaderSpan}
use Rattle.eu_framing.specs.Fields.{has_member}
use Rattle.eu_framing.proofs.FieldLemmas.{any_none, any_yes, values_same}
use Rattle.eu_framing.proofs.fields.is_listed.Goals as goal
use Rattle.eu_framing.proofs.fields.is_listed.Goals.{then-is_same_text, else-is_same_text}

pub loop-header-init : goal.loop-header-init
loop-header-init c = any_none (λ (v : List ℕ). has_member v c.args.member.now) c.args.name.now

pub loop-header-preserved : goal.loop-header-preserved
loop-header-preserved c =
    let test = λ (v : List ℕ). has_member v c.args.member.now in
    let zero : HeaderSpan = record { name = record { start = 0; end = 0 }; value = record { start = 0; end = 0 } } in
    let h = header_bytes c.args.text.now (get_or c.args.headers.now c.loop-header.header-index zero) in
    let more = map_more (header_bytes c.args.text.now) c.args.headers.now c.loop-header.header-index zero c.loop-header-test.true in
    elim c.if-is_same_text.branch [
      | then-is_same_text w ↦ rw (w.found-is, c.loop-header.invariant, w.has_member-found.ensures, w.of-then-is_same_text.ensures) (any_yes test c.args.name.now _ _ h more (sym (rw c.of.ensures at w.if-is_same_text.ensures)))
      | else-is_same_text w ↦ rw (w.found-is, c.loop-header.invariant) (values_same (list_any test) c.args.name.now _ _ h more (sym (rw c.of.ensures at w.if-is_same_text.ensures)))
    ]
