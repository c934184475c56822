use Rattle.std.proofs.Common.{arith, ◌≡◌, ◌+◌, List, min, ap, sym, ◌∙◌}
use Rattle.std.specs.Prelude.{Vec, ℕ}
use Rattle.std.specs.declared.alloc.Global.{Global}
use Rattle.std.proofs.lemmas.List.{drop_all}
use Rattle.eu_framing.specs.Walking.{values_memory}
use Rattle.eu_framing.proofs.request.values_memory.Goals as goal

pub returns : goal.returns
returns c =
    let most : ℕ = 18446744073709551615 in
    let none = drop_all c.loop-value.value-index c.args.values.now (omega (arith, c.loop-value-test.false)) in
    let whole : min (c.loop-value.memory + 0) most ≡ min (values_memory c.args.values.now) most =
    ap (λ (vs : List (Vec ℕ Global)). min (c.loop-value.memory + values_memory vs) most) (sym none) ∙ c.loop-value.invariant.whole in
    omega (arith, whole, c.loop-value.invariant.within)
