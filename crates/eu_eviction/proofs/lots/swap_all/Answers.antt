use Rattle.std.proofs.Common.{◌≡◌, ◌<◌, ◌+◌, ap, sym, ◌∙◌, get_or, length, arith}
use Rattle.std.proofs.lemmas.List.{get_or-drop, get_or-replicate}
use Rattle.eu_eviction.proofs.lots.swap_all.Goals as goal

pub swap-requires-clause-same : goal.swap-requires-clause-same
swap-requires-clause-same c =
    let i = c.loop-lot.lot-index in
    let x = c.lot-item.result in
    let here : i + 0 ≡ i = omega arith in
    let initial = c.args.lots.now in
    let inside : i < length initial = c.loop-lot-test.true in
    ap (λ n. get_or c.loop-lot.lots n x) (sym here) ∙ sym (get_or-drop i c.loop-lot.lots 0 x) ∙ ap (λ l. get_or l 0 x) c.loop-lot.invariant.left
    ∙ get_or-drop i initial 0 x ∙ ap (λ n. get_or initial n x) here
    ∙ ap (λ l. get_or l i x) c.requires.same ∙ get_or-replicate (length initial) i c.args.keys.now x inside
