-- Override rows: a finite map with some room
use Rattle.std.specs.Prelude.{ℕ, refl}
use Rattle.std.specs.Coded.{Coded, code_by, coded×, coded_ℕ}
use Rattle.std.specs.FinMap.{FinMap}
use Rattle.eu_base.specs.declared.statuses.Status.{Status}
use Rattle.eu_base.specs.Values.{name_cmp}
use Rattle.eu_model.specs.PlainCode.{coded_overrides}

-- the override rows, and how many more can be put without taking memory
pub record Rows : Type 0 where
  pub rows : FinMap name_cmp Status
  pub room : ℕ

abbrev pub coded_table : Coded Rows
coded_table = code_by (FinMap name_cmp Status × ℕ) (coded× coded_overrides coded_ℕ) (λ s. (s.rows, s.room)) (λ p. record { rows = p.0; room = p.1 }) (λ _. refl)
