-- What a registry of a plain form, and a server of one, may answer
use Rattle.std.specs.Prelude.{◌≡◌, ℕ, Option, Some, None, Result, Ok, Err}
use Rattle.eu_base.specs.declared.faults.Fault.{Fault}
use Rattle.eu_base.specs.declared.faults.Fault.TheVariants.{OutOfMemory}
use Rattle.eu_model.specs.declared.commands.Command.{Command}
use Rattle.eu_model.specs.declared.commands.Reply.{Reply}
use Rattle.eu_model.specs.Machine.{Machine}
use Rattle.eu_model.specs.Step.{Step, fault}
use Rattle.eu_model.specs.Plain.{Plain, plain}
use Rattle.eu_model.specs.Server.{Server, PlainServer, ServerStep, server_fault, plain_server}

-- ---- what a registry, seen as its plain form, may answer

-- a refusal is the machine's fault where it has one, and else want of memory
abbrev pub IsRefusal : Option Fault → Fault → Type 0
IsRefusal None f = f ≡ OutOfMemory
IsRefusal (Some g) f = f ≡ g

-- from the machine s, this is a step to a machine with the plain form new, or a refusal that changes nothing
unfoldable pub IsAnswer : Machine → Command → ℕ → Result Reply Fault → Plain → Type 0
IsAnswer s c t (Ok reply) new = (fault s c t ≡ None) × ((s' : Machine) × Step s c t reply s' × (plain s' ≡ new))
IsAnswer s c t (Err f) new = IsRefusal (fault s c t) f × (new ≡ plain s)

-- the same from each machine with the plain form old
unfoldable pub Answers : Plain → Command → ℕ → Result Reply Fault → Plain → Type 0
Answers old c t result new = (s : Machine) → plain s ≡ old → IsAnswer s c t result new

-- a value that is seen alike of each machine with this plain form
abbrev pub Shows : {V : Type 0} → Plain → (Machine → V) → V → Type 0
Shows p view value = (s : Machine) → plain s ≡ p → value ≡ view s

-- ---- what a server, seen as its plain form, may answer

-- from the server s, this is a step to a server with the plain form new, or a refusal that changes nothing
unfoldable pub IsServerAnswer : Server → Command → ℕ → Result Reply Fault → PlainServer → Type 0
IsServerAnswer s c t (Ok reply) new = (server_fault s c t ≡ None) × ((s' : Server) × ServerStep s c t reply s' × (plain_server s' ≡ new))
IsServerAnswer s c t (Err f) new = IsRefusal (server_fault s c t) f × (new ≡ plain_server s)

-- the same from each server with the plain form old
unfoldable pub ServerAnswers : PlainServer → Command → ℕ → Result Reply Fault → PlainServer → Type 0
ServerAnswers old c t result new = (s : Server) → plain_server s ≡ old → IsServerAnswer s c t result new
