use Rattle.std.proofs.lemmas.Result.{IfOk-weaker}
use Rattle.eu_core.proofs.DecidedLemmas.{in_place-new}
use Rattle.eu_core.proofs.joins.decide_join.Goals as goal

pub returns-in-Some-clause-new : goal.returns-in-Some-clause-new
returns-in-Some-clause-new c leases at few = in_place-new leases c.args.instance.now.key c.join_under.result.change.lease c.join_under.ensures.in_place

pub returns-in-Some-2-clause-new : goal.returns-in-Some-2-clause-new
returns-in-Some-2-clause-new c =
    IfOk-weaker c.join_over.result _ _ (λ d in_place leases at few. in_place-new leases c.args.instance.now.key d.change.lease in_place) c.join_over.ensures.in_place
