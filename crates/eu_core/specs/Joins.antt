-- What a registration decides
use Rattle.std.specs.Prelude.{◌≡◌, ℕ, Bool, false, Option}
use Rattle.eu_base.specs.declared.statuses.Status.{Status}
use Rattle.eu_base.specs.declared.instances.Instance.{Instance}
use Rattle.eu_model.specs.declared.views.Listed.{Listed}
use Rattle.eu_model.specs.PlainSteps.{plain_register}
use Rattle.eu_core.specs.declared.decision.Decision.{Decision}
use Rattle.eu_core.specs.Decided.{lease_left}

-- the lease, the row and the reply are those of a registration, from a held lease and a row. None of them depends on the number expected, and no renewal is counted
pub record Joins (d : Decision) (held : Option Listed) (row : Option Status) (expected : ℕ) (n : Instance) (replicated : Bool) (t : ℕ) : Type 0 where
  pub lease : lease_left d.change.lease held ≡ (plain_register held row 0 n replicated t).lease
  pub row_is : d.change.row ≡ (plain_register held row 0 n replicated t).row
  pub expected_is : d.change.expected ≡ expected
  pub counted_is : d.change.counted ≡ false
  pub reply : d.reply ≡ (plain_register held row 0 n replicated t).reply
