use Rattle.std.proofs.Common.{refl}
use Rattle.eu_core.proofs.registry.Registry.step_on_no_lease.Goals as goal

pub returns-in-EndMinute-clause-ok : goal.returns-in-EndMinute-clause-ok
returns-in-EndMinute-clause-ok g c = λ m. rw c.in-EndMinute.is (record { acts = c.step_end_minute.ensures.acts c.args.moment m c.args.logs; chooses = refl })

pub returns-in-Update-clause-ok : goal.returns-in-Update-clause-ok
returns-in-Update-clause-ok g c = λ m. rw c.in-Update.is (record { acts = c.step_update.ensures.acts c.args.moment m c.args.logs; chooses = refl })

pub returns-in-Reconfigure-clause-ok : goal.returns-in-Reconfigure-clause-ok
returns-in-Reconfigure-clause-ok g c = λ m. rw c.in-Reconfigure.is (record { acts = c.step_reconfigure.ensures.acts c.args.moment m c.args.logs; chooses = refl })

pub returns-in-Evict-clause-ok : goal.returns-in-Evict-clause-ok
returns-in-Evict-clause-ok g c = rw c.in-Evict.is c.step_evict.ensures.ok
