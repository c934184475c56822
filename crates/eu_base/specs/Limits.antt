-- The limits, each said once. The code's constants of these names are the same numbers
use Rattle.std.specs.Prelude.{ℕ, ◌^◌}

-- ---- numbers

-- no moment is later, in milliseconds
abbrev pub last_moment : ℕ
last_moment = 2 ^ 62

-- how long a lease lasts at most, in seconds
abbrev pub longest_lease : ℕ
longest_lease = 2147483

-- the bytes of a name
abbrev pub longest_name : ℕ
longest_name = 255

-- ---- a registry

abbrev pub most_leases : ℕ
most_leases = 65536

-- the clients that are expected
abbrev pub most_expected : ℕ
most_expected = 2 ^ 40

-- the renewals of a minute
abbrev pub most_renewals : ℕ
most_renewals = 2 ^ 62

-- ---- what waits for a peer

abbrev pub most_peers : ℕ
most_peers = 8

abbrev pub most_waiting : ℕ
most_waiting = 10000

-- the tasks of a batch
abbrev pub most_sent : ℕ
most_sent = 250

-- how old a task is at most, in milliseconds
abbrev pub task_age : ℕ
task_age = 30000

-- ---- a book

-- the entries of its journal
abbrev pub most_entries : ℕ
most_entries = 65536

-- the commands that it accepts
abbrev pub most_steps : ℕ
most_steps = 2 ^ 62

-- the passes of a shared book
abbrev pub most_passes : ℕ
most_passes = 1024
