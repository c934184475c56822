-- What an answered command adds to the accounts
use Rattle.std.specs.Prelude.{ℕ, ◌+◌, true, List, [], ◌∷◌, length}
use Rattle.eu_model.specs.declared.commands.Command.{Command}
use Rattle.eu_model.specs.declared.commands.Command.TheVariants.{Register, Renew, Cancel, Adopt, Evict}
use Rattle.eu_model.specs.declared.commands.Entry.{Entry}
use Rattle.eu_model.specs.declared.commands.Reply.{Reply}
use Rattle.eu_model.specs.declared.commands.Reply.TheVariants.{Registered, Done, Stale, Conflict, Evicted}
use Rattle.eu_model.specs.declared.tallies.Tally.{Tally}

-- a renewal that found its lease
abbrev pub counted_by : Command → Reply → ℕ
counted_by (Renew k last_dirty overridden replicated) Done = 1
counted_by (Renew k last_dirty overridden replicated) Stale = 1
counted_by (Renew k last_dirty overridden replicated) (Conflict i) = 1
counted_by _ _ = 0

-- a lease that came
abbrev pub added_by : Command → Reply → ℕ
added_by (Register n replicated) (Registered true) = 1
added_by (Adopt n) (Registered true) = 1
added_by _ _ = 0

-- the leases that went
abbrev pub removed_by : Command → Reply → ℕ
removed_by (Cancel k replicated) Done = 1
removed_by Evict (Evicted victims) = length victims
removed_by _ _ = 0

abbrev pub delta : Command → Reply → Tally
delta c reply = record { steps = 1; counted = counted_by c reply; added = added_by c reply; removed = removed_by c reply }

abbrev pub nothing : Tally
nothing = record { steps = 0; counted = 0; added = 0; removed = 0 }

abbrev pub plus : Tally → Tally → Tally
plus a b = record { steps = a.steps + b.steps; counted = a.counted + b.counted; added = a.added + b.added; removed = a.removed + b.removed }

-- what these entries did together
abbrev pub tally_of : List Entry → Tally
tally_of [] = nothing
tally_of (e ∷ es) = plus (delta e.command e.reply) (tally_of es)
