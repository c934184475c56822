use Rattle.std.proofs.Common.{◌<◌, ◌+◌, ◌-◌, ap, sym, ◌∙◌, replicate}
use Rattle.std.proofs.lemmas.List.Sorted.{IsPermutation-trans}
use Rattle.std.proofs.lemmas.Map.Keys.{IsDistinct-IsPermutation}
use Rattle.eu_clock.specs.Front.{state_from}
use Rattle.eu_clock.proofs.FrontLemmas.{shuffled_from-step, state_from-step}
use Rattle.eu_eviction.proofs.lots.draw_all.Goals as goal

pub loop-i-preserved : goal.loop-i-preserved
loop-i-preserved g c =
    let asks = g.C.Chooser.asks in
    let i = c.loop-i.i in
    let n = c.args.number in
    let here : i < n = c.loop-i-test.true in
    record {
      keys = shuffled_from-step asks i n c.loop-i.chooser c.below-word.new.self c.below-word.result _ here c.below-word.ensures.asked c.loop-i.keys c.swap.new.self (sym c.loop-i.auto.keys) c.swap.ensures.after ∙ c.loop-i.invariant.keys;
      chooser = ap (λ k. state_from asks (i + 1) (n - (i + 1)) k c.below-word.new.self) (c.swap.ensures.len ∙ c.loop-i.auto.keys)
          ∙ state_from-step asks i n c.loop-i.chooser c.below-word.new.self c.below-word.result _ here c.below-word.ensures.asked
          ∙ ap (λ k. state_from asks i (n - i) k c.loop-i.chooser) (sym c.loop-i.auto.keys) ∙ c.loop-i.invariant.chooser;
      permutation = IsPermutation-trans _ _ _ c.loop-i.invariant.permutation c.swap.ensures.permutation;
      lots = c.swap_all.ensures ∙ (λ x. replicate (c.loop-i.auto.lots x) (sym c.swap.ensures.after x));
    }

pub returns-clause-distinct : goal.returns-clause-distinct
returns-clause-distinct g c = λ e flips d. IsDistinct-IsPermutation e flips c.args.keys.now c.loop-i.keys c.loop-i.invariant.permutation d
