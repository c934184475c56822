use Rattle.std.proofs.Common.{refl, ap}
use Rattle.std.specs.Prelude.{Some}
use Rattle.eu_store.specs.Stored.{amended}
use Rattle.eu_core.specs.Decided.{lease_left}
use Rattle.eu_core.proofs.decision.LeaseChange.keeps.Goals as goal

pub returns-in-Stays : goal.returns-in-Stays
returns-in-Stays c = λ is l same. (l, ap (λ x. lease_left x (Some l)) c.in-Stays.is, refl)

pub returns-in-Amended : goal.returns-in-Amended
returns-in-Amended c = λ is l same.
    (amended c.in-Amended.amendment l, ap (λ x. lease_left x (Some l)) c.in-Amended.is, c.keeps.ensures is l same)
