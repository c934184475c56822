use Rattle.std.proofs.Common.{◌≡◌, ◌∙◌, ◌-◌, sym, arith, drop, length, take}
use Rattle.std.proofs.lemmas.List.{length-drop, take_all}
use Rattle.eu_framing.specs.Chunks.{trailer_room}
use Rattle.eu_framing.proofs.ScanLemmas.{section_none, section_in_window}
use Rattle.eu_framing.proofs.trailer.try_trailer.Goals as goal

pub returns-else-finds_empty_line-clause-none : goal.returns-else-finds_empty_line-clause-none
returns-else-finds_empty_line-clause-none c = λ at after.
    let b = c.args.buffer.now in
    let text = drop c.args.start b in
    let all : take (length b - c.args.start) text ≡ text = take_all (length b - c.args.start) text (omega (arith, length-drop c.args.start b)) in
    section_in_window (trailer_room c.args.room) text (section_none text c.args.scan.now at after (rw all at (sym c.finds_empty_line.ensures.ends ∙ c.if-finds_empty_line.false)))
