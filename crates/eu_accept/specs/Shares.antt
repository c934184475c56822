-- What each loop has of a server's limits, and the pool
use Rattle.std.specs.Prelude.{ℕ, ◌+◌, ◌-◌, ◌/◌, ◌^◌, [], if◌then◌else◌, min, nat_le}
use Rattle.eu_hall.specs.Rooms.{Room}
use Rattle.eu_accept.specs.declared.hub.Limits.{Limits}
use Rattle.eu_accept.specs.Queues.{Line}

-- a place for each connection, and 64 for those that are refused
abbrev pub places_of : Limits → ℕ
places_of limits = min (limits.connections + 64) (2 ^ 64 - 1)

-- of so many loops each one's part of the bytes, all alike, and the pool's part is as large
abbrev pub share_of : Limits → ℕ → ℕ
share_of limits loops = limits.bytes / min (loops + 1) (2 ^ 64 - 1)

-- the limits of a loop by its number, where so many serve clients: that of operators has places for 64 alone, and waits no longer for a first byte than for the rest
abbrev pub limits_of : ℕ → ℕ → Limits → Limits
limits_of client_loops number limits = if nat_le client_loops number then record limits { connections = 0; patience = record limits.patience { idle = limits.patience.request } } else limits

-- the hall of one of so many loops, before the first connection
abbrev pub hall_of : {G : Type 0} → Limits → ℕ → Room G
hall_of limits loops = record { places = []; most = places_of limits; most_bytes = share_of limits loops }

-- the pool's queue beside so many loops, before the first connection
abbrev pub queue_of : Limits → ℕ → Line
queue_of limits loops = record { waits = []; most = places_of limits; most_bytes = share_of limits loops }
