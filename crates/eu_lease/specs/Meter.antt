-- What is counted by the minute, and what is expected
use Rattle.std.specs.Prelude.{◌≡◌, ℕ, List, refl}
use Rattle.std.specs.Coded.{Coded, code_by, coded×, coded_ℕ}
use Rattle.eu_base.specs.declared.settings.Config.{Config}
use Rattle.eu_base.specs.contracts.settings.Config as config
use Rattle.eu_model.specs.Machine.{Mark, last, since}

-- the renewals of the last whole minute, and those since
pub record Counted : Type 0 where
  pub last : ℕ
  pub since : ℕ

abbrev pub coded_counted : Coded Counted
coded_counted = code_by (ℕ × ℕ) (coded× coded_ℕ coded_ℕ) (λ c. (c.last, c.since)) (λ p. record { last = p.0; since = p.1 }) (λ _. refl)

-- the two counts of a list of marks
pub record CountsMarks (marks : List Mark) (c : Counted) : Type 0 where
  pub last : c.last ≡ last marks
  pub since : c.since ≡ since marks

-- the settings, and the number of clients that are expected
pub record Expectation : Type 0 where
  pub config : Config
  pub expected : ℕ

abbrev pub coded_expectation : Coded Expectation
coded_expectation = code_by (Config × ℕ) (coded× config.the_row.coded coded_ℕ) (λ e. (e.config, e.expected)) (λ p. record { config = p.0; expected = p.1 }) (λ _. refl)
