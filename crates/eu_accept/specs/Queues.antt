-- What waits for the pool
use Rattle.std.specs.Prelude.{◌≡◌, ℕ, ◌≤◌, List, length, sum_by}
use Rattle.eu_accept.specs.declared.queue.Job.{Job}

-- the connections that wait, first to last, for how many there is room, and how many bytes they can hold
pub record Line : Type 0 where
  pub waits : List Job
  pub most : ℕ
  pub most_bytes : ℕ

-- how many bytes those hold that wait
abbrev pub bytes_of : List Job → ℕ
bytes_of waits = sum_by (λ job. job.bytes) waits

-- no more wait than there is room for, each has its memory, and the sum of their bytes is known and within its limit
pub record IsKept (waits : List Job) (capacity most bytes most_bytes : ℕ) : Type 0 where
  pub few : length waits ≤ most
  pub room : most ≤ capacity
  pub counted : bytes ≡ bytes_of waits
  pub within : bytes ≤ most_bytes
