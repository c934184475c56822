use Rattle.std.proofs.Common.{◌≡◌, ◌+◌, ◌-◌, length, take, drop, arith, add-one, length-drop}
use Rattle.std.proofs.lemmas.List.{take_all}
use Rattle.eu_words.proofs.Texts.{cut_here, cut_nowhere}
use Rattle.eu_words.proofs.words.cut.Goals as goal

pub returns-then-byte-eq32 : goal.returns-then-byte-eq32
returns-then-byte-eq32 c =
    let text = c.args.text.now in
    let i = c.loop-i.i in
    let e : take (length text - (i + 1)) (drop (i + 1) text) ≡ drop (i + 1) text = take_all _ _ (omega (arith, length-drop (i + 1) text)) in
    rw (e, add-one) (cut_here text i c.loop-i-test.true c.loop-i.invariant c.if-byte-eq32.true)

pub returns : goal.returns
returns c = cut_nowhere c.args.text.now (λ k l. c.loop-i.invariant k (omega arith))
