use Rattle.std.proofs.Common.{◌≡◌, ◌<◌, ◌+◌, ◌-◌, length, ap, sym, ◌∙◌, refl}
use Rattle.std.proofs.lemmas.List.Sorted.{IsPermutation-trans}
use Rattle.std.proofs.lemmas.Map.Keys.{IsDistinct-IsPermutation}
use Rattle.eu_clock.specs.Front.{state_from}
use Rattle.eu_clock.proofs.FrontLemmas.{shuffled_from-step, state_from-step}
use Rattle.eu_clock.proofs.shuffle.choose.Goals as goal

pub loop-i-preserved : goal.loop-i-preserved
loop-i-preserved g c =
    let asks = g.C.Chooser.asks in
    let here : c.loop-i.i < c.args.n = c.loop-i-test.true in
    record {
      items = shuffled_from-step asks c.loop-i.i c.args.n c.loop-i.chooser c.below-word.new.self c.below-word.result _ here c.below-word.ensures.asked c.loop-i.items c.swap.new.self (sym c.loop-i.auto.items) c.swap.ensures.after ∙ c.loop-i.invariant.items;
      chooser = ap (λ k. state_from asks (c.loop-i.i + 1) (c.args.n - (c.loop-i.i + 1)) k c.below-word.new.self) (c.swap.ensures.len ∙ c.loop-i.auto.items)
          ∙ state_from-step asks c.loop-i.i c.args.n c.loop-i.chooser c.below-word.new.self c.below-word.result _ here c.below-word.ensures.asked
          ∙ ap (λ k. state_from asks c.loop-i.i (c.args.n - c.loop-i.i) k c.loop-i.chooser) (sym c.loop-i.auto.items) ∙ c.loop-i.invariant.chooser;
      permutation = IsPermutation-trans _ _ _ c.loop-i.invariant.permutation c.swap.ensures.permutation;
    }

pub returns-clause-distinct : goal.returns-clause-distinct
returns-clause-distinct g c = λ e flips d. IsDistinct-IsPermutation e flips c.args.items.now c.loop-i.items c.loop-i.invariant.permutation d
