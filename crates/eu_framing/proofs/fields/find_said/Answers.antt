use Rattle.std.proofs.Common.{sym, get_or}
use Rattle.std.proofs.lemmas.List.{map_more}
use Rattle.httparse.specs.Spans.{header_bytes}
use Rattle.httparse.specs.declared.spans.HeaderSpan.{HeaderSpan}
use Rattle.eu_framing.proofs.FieldLemmas.{values_none, said_yes, said_no}
use Rattle.eu_framing.proofs.fields.find_said.Goals as goal
use Rattle.eu_framing.proofs.fields.find_said.Goals.{then-is_same_text, else-is_same_text}

pub loop-header-init : goal.loop-header-init
loop-header-init c = values_none c.args.name.now

pub loop-header-preserved : goal.loop-header-preserved
loop-header-preserved c =
    let zero : HeaderSpan = record { name = record { start = 0; end = 0 }; value = record { start = 0; end = 0 } } in
    let h = header_bytes c.args.text.now (get_or c.args.headers.now c.loop-header.header-index zero) in
    let more = map_more (header_bytes c.args.text.now) c.args.headers.now c.loop-header.header-index zero c.loop-header-test.true in
    elim c.if-is_same_text.branch [
      | then-is_same_text w ↦ rw w.found-is (said_yes c.args.name.now _ _ h _ _ more (sym (rw c.of.ensures at w.if-is_same_text.ensures)) (rw w.of-then-is_same_text.ensures at w.and-found.ensures) c.loop-header.invariant)
      | else-is_same_text w ↦ rw w.found-is (said_no c.args.name.now _ _ h _ more (sym (rw c.of.ensures at w.if-is_same_text.ensures)) c.loop-header.invariant)
    ]
