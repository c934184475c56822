-- How many loops a server has
use Rattle.std.specs.Prelude.{ℕ, ◌+◌, if◌then◌else◌, is_some, max, min}
use Rattle.eu_server.specs.declared.serve.Plan.{Plan}

-- 1 to 16 that serve clients, and one more where operators connect
abbrev pub loops_of : Plan → ℕ
loops_of plan = max 1 (min plan.workers 16) + (if is_some plan.operators then 1 else 0)
