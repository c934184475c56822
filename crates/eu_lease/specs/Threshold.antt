-- What is true of a stored threshold
use Rattle.std.specs.Prelude.{◌≡◌, ◌≤◌, ◌^◌}
use Rattle.eu_model.specs.Machine.{threshold}
use Rattle.eu_lease.specs.declared.threshold.Threshold.TheInside.{Inside}
use Rattle.std.proofs.Common.{sym}
use Rattle.eu_base.specs.Limits.{most_expected}

-- the stored value is the threshold of the number expected, which is within its limit
pub record IsUpToDate (t : Inside) : Type 0 where
  pub value : t.value ≡ threshold t.config t.expected
  pub bound : t.expected ≤ most_expected

-- so settings and number give it back
pub given_back : (t : Inside) → IsUpToDate t → ◌≡◌ {A = Inside} (record { config = t.config; expected = t.expected; value = threshold t.config t.expected }) t
given_back t up = λ i. record t { value = sym up.value i }
