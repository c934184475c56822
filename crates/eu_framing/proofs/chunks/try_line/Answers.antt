use Rattle.std.proofs.Common.{◌≡◌, ◌-◌, ◌∙◌, eqb, ap, sym, arith, drop, length, take}
use Rattle.std.specs.List.{list_any}
use Rattle.std.proofs.lemmas.List.{length-drop, take_all}
use Rattle.eu_framing.proofs.ScanLemmas.{line_none, line_in_window}
use Rattle.eu_framing.proofs.chunks.try_line.Goals as goal

pub returns-else-contains-clause-none : goal.returns-else-contains-clause-none
returns-else-contains-clause-none c = λ from after.
    let b = c.args.buffer.now in
    let unseen = drop c.args.seen b in
    let all : take (length b - c.args.seen) unseen ≡ unseen = take_all (length b - c.args.seen) unseen (omega (arith, length-drop c.args.seen b)) in
    line_in_window c.args.room (drop c.args.start b) (line_none b c.args.start c.args.seen from after (ap (list_any (λ y. eqb y 10)) (sym all) ∙ sym c.contains.ensures.value ∙ c.if-contains.false))
