-- How many leases expire before a limit, by their table and by the numbers of their deadlines
use Rattle.std.specs.Prelude.{ℕ, ◌+◌, nat_lt, if◌then◌else◌, List, count_by, sum_by, unwrap_or}
use Rattle.std.specs.BTreeMap.{is_at}
use Rattle.std.specs.Map.{lookup}
use Rattle.std.specs.Ordering.{nat_cmp}
use Rattle.eu_base.specs.declared.names.Key.{Key}
use Rattle.eu_model.specs.declared.views.Listed.{Listed}
use Rattle.eu_model.specs.Machine.{duration}

-- the last moment at which a listed lease hasn't expired
abbrev pub deadline_of : Listed → ℕ
deadline_of l = l.times.updated + duration l.instance

-- how many of these leases have a deadline before a limit
abbrev pub held_before : List (Key × Listed) → ℕ → ℕ
held_before es limit = count_by (λ e. nat_lt (deadline_of e.1) limit) es

-- one deadline, where it lies before a limit
abbrev pub one_before : ℕ → ℕ → ℕ
one_before deadline limit = if nat_lt deadline limit then 1 else 0

-- how many are counted in all, of deadlines before a limit
abbrev pub counted : List (ℕ × ℕ) → ℕ → ℕ
counted counts limit = sum_by (λ c. if nat_lt c.0 limit then c.1 else 0) counts

-- how many are counted of one deadline
abbrev pub count_at : List (ℕ × ℕ) → ℕ → ℕ
count_at counts deadline = unwrap_or (lookup (is_at (nat_cmp deadline)) counts) 0
