use Rattle.std.proofs.Common.{arith, not, ◌∙◌}
use Rattle.eu_base.specs.Values.{name_eq}
use Rattle.eu_admin.proofs.RunLemmas.{runs_cut, differs_cut}
use Rattle.eu_admin.proofs.lines.run_len.Goals as goal

pub returns-then-ne-clause-runs : goal.returns-then-ne-clause-runs
returns-then-ne-clause-runs c =
    runs_cut c.args.listing.now c.loop-place.place (omega arith) (omega arith) c.loop-place.invariant
    (differs_cut c.args.listing.now c.loop-place.place c.index-listing-place.result c.index-listing-place-in-loop-place.result c.ne.result (c.ne.ensures ∙ (λ i. not (name_eq (c.key.ensures i).app (c.key-in-loop-place.ensures i).app))) c.if-ne.true)

pub returns-clause-runs : goal.returns-clause-runs
returns-clause-runs c =
    runs_cut c.args.listing.now _ c.requires (omega arith) (λ k lt d. c.loop-place.invariant k (omega arith) d) (λ k e lt d. absurd (omega arith))
