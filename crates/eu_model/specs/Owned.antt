-- Commands and replies that own no memory
use Rattle.std.specs.Prelude.{Bool, true, false}
use Rattle.eu_model.specs.declared.commands.Command.{Command}
use Rattle.eu_model.specs.declared.commands.Command.TheVariants.{Register, Renew, Cancel, SetStatus, UnsetStatus, Adopt, Landed}
use Rattle.eu_model.specs.declared.commands.Reply.{Reply}
use Rattle.eu_model.specs.declared.commands.Reply.TheVariants.{Conflict, Evicted, Batch}

-- all but those that hand out an instance, keys or tasks
abbrev pub owns_nothing : Reply → Bool
owns_nothing (Conflict i) = false
owns_nothing (Evicted victims) = false
owns_nothing (Batch tasks) = false
owns_nothing _ = true

-- the commands that have no key, no instance and no codes
abbrev pub names_nothing : Command → Bool
names_nothing (Register n replicated) = false
names_nothing (Renew k last_dirty overridden replicated) = false
names_nothing (Cancel k replicated) = false
names_nothing (SetStatus k status last_dirty replicated) = false
names_nothing (UnsetStatus k suggested last_dirty replicated) = false
names_nothing (Adopt n) = false
names_nothing (Landed peer codes) = false
names_nothing _ = true
