-- Which thread of a pool is called
use Rattle.std.specs.Prelude.{Bool, false, if◌then◌else◌, Option, Some, None}
use Rattle.eu_accept.specs.declared.pool.HandName.{HandName}
use Rattle.eu_accept.specs.declared.pool.Waiting.{Waiting}

-- one waits, or doesn't
abbrev pub noted : Waiting → HandName → Bool → Waiting
noted w HandName.First waits = record w { first = waits }
noted w HandName.Second waits = record w { second = waits }

-- the first one is called where it waits, and else the second one where that does
abbrev pub called : Waiting → Option HandName
called w = if w.first then Some HandName.First else (if w.second then Some HandName.Second else None)

-- who is called waits no more
abbrev pub after_call : Waiting → Waiting
after_call w = if w.first then record w { first = false } else record w { second = false }
