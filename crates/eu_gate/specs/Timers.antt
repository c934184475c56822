-- When the timers of a server take their turns
use Rattle.std.specs.Prelude.{ℕ, ◌≡◌, ◌-◌, ◌*◌, ◌==◌, false, max, if◌then◌else◌, Option, Some, None}
use Rattle.std.specs.Duration.{as_nanos}
use Rattle.std.specs.Time.{instant_nanos}
use Rattle.std.specs.declared.time.Instant.{Instant}
use Rattle.eu_gate.specs.declared.timers.Periods.{Periods}
use Rattle.eu_gate.specs.declared.timers.Schedule.{Schedule}
use Rattle.eu_gate.specs.declared.timers.Schedules.{Schedules}
use Rattle.eu_gate.specs.declared.timers.Timer.{Timer}
use Rattle.eu_gate.specs.declared.timers.Timer.TheVariants.{Evictor, Bucket, Threshold}

-- which worker each timer is at a gate
abbrev pub number_of : Timer → ℕ
number_of Evictor = 21
number_of Bucket = 22
number_of Threshold = 23

-- the timer whose worker has that number at a gate
abbrev pub timer_of : ℕ → Option Timer
timer_of who =
    if who == 21 then Some Evictor else if who == 22 then Some Bucket else if who == 23 then Some Threshold else None

-- the milliseconds between two turns: 0 counts as 1
abbrev pub paced : ℕ → ℕ
paced ms = max ms 1

-- how long a timer waits still, at a time: what is left of its period since its last turn began
abbrev pub nanos_left : Schedule → Instant → ℕ
nanos_left schedule now = as_nanos schedule.period - (instant_nanos now - instant_nanos schedule.began)

-- the schedule of a timer with a period of so many milliseconds, that begins at a time
abbrev pub IsFresh : ℕ → Instant → Schedule → Type 0
IsFresh ms began schedule = (as_nanos schedule.period ≡ paced ms * 1000000) × (schedule.began ≡ began)

-- those of a server that begins at a time
abbrev pub IsStart : Periods → Instant → Schedules → Type 0
IsStart periods began schedules =
    (schedules.have_ended ≡ false) × IsFresh periods.evictor began schedules.evictor
    × IsFresh periods.bucket began schedules.bucket × IsFresh periods.threshold began schedules.threshold

-- that of a timer
abbrev pub schedule_of : Timer → Schedules → Schedule
schedule_of Evictor schedules = schedules.evictor
schedule_of Bucket schedules = schedules.bucket
schedule_of Threshold schedules = schedules.threshold

-- the same once a timer has begun a turn
abbrev pub begun : Timer → Instant → Schedules → Schedules
begun Evictor now schedules = record schedules { evictor = record schedules.evictor { began = now } }
begun Bucket now schedules = record schedules { bucket = record schedules.bucket { began = now } }
begun Threshold now schedules = record schedules { threshold = record schedules.threshold { began = now } }
