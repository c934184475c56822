use Rattle.std.proofs.Common.{◌≡◌, ◌<◌, ◌+◌, ℕ, List, length, get_or, take, drop, sym, ap, subst, ◌∙◌, arith}
use Rattle.std.proofs.lemmas.List.{get_or_read, length-set, take_all}
use Rattle.eu_store.specs.Order.{IsInOrder}
use Rattle.eu_store.specs.Sweep.{place_now}
use Rattle.eu_store.proofs.SweepLemmas.{one_goes, one_stays, order_swept, renumbered, rest_alike, rest_put}
use Rattle.eu_store.proofs.places.renumber.Goals.{in-Some, in_default}
use Rattle.eu_store.proofs.places.renumber.Goals as goal

-- the place that is read is that of before
read : (xs ps : List ℕ) (at x : ℕ) → at < length xs → length xs ≡ length ps → drop at xs ≡ drop at ps → x ≡ get_or xs at x → x ≡ get_or ps at 0
read xs ps at x low long rest is = get_or_read xs at x low is 0 ∙ (rest_alike xs ps at 0 low (omega (arith, low, long)) rest).0

pub place_now-requires : goal.place_now-requires
place_now-requires c =
    let low : c.loop-at.at < length c.loop-at.places.items = omega (arith, c.loop-at-test.true, c.len-at-end.ensures, c.loop-at.invariant.long) in
    let ps = c.args.places.now.items in
    let is = read c.loop-at.places.items ps c.loop-at.at c.index.result.now low c.loop-at.invariant.long c.loop-at.invariant.rest c.index.ensures in
    omega (arith, is, c.requires.places c.loop-at.at (omega (arith, low, c.loop-at.invariant.long)), c.note.ensures.long)

pub loop-at-preserved : goal.loop-at-preserved
loop-at-preserved c =
    let xs = c.loop-at.places.items in
    let ps = c.args.places.now.items in
    let at = c.loop-at.at in
    let kept = c.loop-at.kept in
    let was = c.loop-at.invariant in
    let f = place_now c.args.origins.now c.note.new.moved in
    let low : at < length xs = omega (arith, c.loop-at-test.true, c.len-at-end.ensures, was.long) in
    let within : at < length ps = omega (arith, low, was.long) in
    let is = read xs ps at c.index.result.now low was.long was.rest c.index.ensures in
    let rest = (rest_alike xs ps at 0 low within was.rest).1 in
    elim c.match-place_now.branch [
      | in-Some w ↦ record {
        written = (λ i. take (w.kept-is i) (w.places-is i).items) ∙ one_stays f xs ps kept at c.index.result.now w.in-Some.place (omega (arith, was.low, low)) within is (sym c.place_now.ensures ∙ w.in-Some.is) was.written;
        rest = (λ i. drop (at + 1) (w.places-is i).items) ∙ rest_put xs ps at kept w.in-Some.place was.low rest;
        low = omega (arith, w.kept-is, was.low);
        long = (λ i. length (w.places-is i).items) ∙ length-set xs kept w.in-Some.place ∙ was.long;
      }
      | in_default w ↦ record {
        written = (λ i. take (w.kept-is i) (w.places-is i).items) ∙ one_goes f xs ps kept at c.index.result.now within is (sym c.place_now.ensures ∙ w.in_default.is) was.written;
        rest = (λ i. drop (at + 1) (w.places-is i).items) ∙ rest;
        low = omega (arith, w.kept-is, was.low);
        long = (λ i. length (w.places-is i).items) ∙ was.long;
      }
    ]

pub returns-clause-order : goal.returns-clause-order
returns-clause-order c es fs apart from order =
    let ps = c.args.places.now.items in
    let f = place_now c.args.origins.now c.note.new.moved in
    let all : take c.loop-at.at ps ≡ ps = take_all c.loop-at.at ps (omega (arith, c.loop-at-test.false, c.len-at-end.ensures)) in
    subst (IsInOrder fs) (sym (c.truncate.ensures.items ∙ c.loop-at.invariant.written ∙ ap (renumbered f) all)) (order_swept es fs ps c.args.origins.now c.note.new.moved c.note.ensures.noted apart from order)
