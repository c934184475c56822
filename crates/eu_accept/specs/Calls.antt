-- Which connections are visited again, and how
use Rattle.std.specs.Prelude.{ℕ, ◌+◌, ◌-◌, ◌^◌, Bool, true, false, nat_lt, if◌then◌else◌, Option, Some, None}
use Rattle.eu_hall.specs.declared.guest.Left.{Left}
use Rattle.eu_hall.specs.declared.guest.Left.TheVariants.{Waits, GoesOn, SendsOn, Long, Gone}
use Rattle.eu_hall.specs.declared.phase.Happened.TheVariants.{Answered}
use Rattle.eu_hall.specs.declared.phase.Patience.{Patience}
use Rattle.eu_hall.specs.declared.phase.Phase.TheVariants.{Idle, Asking, Answering, Lingering}
use Rattle.eu_accept.specs.declared.calls.NextStep.{NextStep}
use Rattle.eu_accept.specs.declared.calls.NextStep.TheVariants.{Lingers, Parks, ParksForMore, GoesToPool, Leaves}

-- the rest of a request is awaited
abbrev pub asks_still : Left → Bool
asks_still (Waits Asking what) = true
asks_still (Waits Idle what) = false
asks_still (Waits Answering what) = false
asks_still (Waits Lingering what) = false
asks_still GoesOn = false
asks_still (SendsOn what) = false
asks_still Long = false
asks_still Gone = false

-- the moment by which a sweep judges who is late: the last one of all, where the server has stopped for as long as a whole request and its response may take
abbrev pub moment_of_sweep : Patience → Option ℕ → ℕ → ℕ
moment_of_sweep patience None now = now
moment_of_sweep patience (Some stopped) now = if nat_lt (now - stopped) (patience.request + patience.response) then now else 2 ^ 64 - 1

-- what becomes of a connection that a visit left so. One that lingers has nothing more to send; one that had all its turns was answered, and is visited again at once, as is one to
-- which more can be sent
abbrev pub next_step : Left → NextStep
next_step (Waits Idle what) = Parks Idle what
next_step (Waits Asking what) = Parks Asking what
next_step (Waits Answering what) = Parks Answering what
next_step (Waits Lingering what) = Lingers
next_step GoesOn = ParksForMore Asking Answered
next_step (SendsOn what) = ParksForMore Answering what
next_step Long = GoesToPool
next_step Gone = Leaves
