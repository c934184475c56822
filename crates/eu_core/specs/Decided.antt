-- What is decided of a command on a lease, and what is left once that is carried out
use Rattle.std.specs.Prelude.{◌≡◌, ℕ, ◌+◌, ◌<◌, ◌≤◌, ◌==◌, ◌&&◌, ◌⊎◌, Bool, true, false, if◌then◌else◌, List, Option, Some, None, Ok, Err}
use Rattle.std.specs.Option.{option_map}
use Rattle.std.specs.FinMap.{FinMap, get, len}
use Rattle.eu_base.specs.declared.faults.Fault.{Fault}
use Rattle.eu_base.specs.declared.faults.Fault.TheVariants.{Exhausted, OutOfMemory}
use Rattle.eu_base.specs.declared.names.Key.{Key}
use Rattle.eu_base.specs.declared.statuses.Status.{Status}
use Rattle.eu_base.specs.Values.{key_cmp}
use Rattle.eu_base.specs.Limits.{most_expected, most_leases, most_renewals}
use Rattle.eu_model.specs.declared.commands.Command.{Command}
use Rattle.eu_model.specs.declared.commands.Reply.{Reply}
use Rattle.eu_model.specs.declared.views.Listed.{Listed}
use Rattle.eu_model.specs.Answers.{Answers}
use Rattle.eu_model.specs.Change.{Change}
use Rattle.eu_model.specs.Machine.{with_value}
use Rattle.eu_model.specs.Plain.{Plain}
use Rattle.eu_lease.specs.Meter.{Counted}
use Rattle.eu_store.specs.Stored.{amended}
use Rattle.eu_core.specs.declared.decision.Change.{Change as Decided}
use Rattle.eu_core.specs.declared.decision.Decision.{Decision}
use Rattle.eu_core.specs.declared.decision.LeaseChange.{LeaseChange}
use Rattle.eu_core.specs.declared.decision.LeaseChange.TheVariants.{Stays, Amended, Begun, Ended}

-- ---- what becomes of a lease

-- what is held then, of what is held before
abbrev pub lease_left : LeaseChange → Option Listed → Option Listed
lease_left Stays held = held
lease_left (Amended a) held = option_map (amended a) held
lease_left (Begun by) held = Some by
lease_left Ended held = None

abbrev pub begins : LeaseChange → Bool
begins (Begun by) = true
begins _ = false

-- a lease begins only where its key isn't held, and there may be one more
abbrev pub IsNew : FinMap key_cmp Listed → Key → LeaseChange → Type 0
IsNew leases k (Begun by) = (get leases k ≡ None) × (len leases < most_leases)
IsNew leases k _ = Unit {0}

-- ---- what becomes of the row of an id

-- an id is to have a row, and has none
abbrev pub is_new : Option Status → Option Status → Bool
is_new None (Some after) = true
is_new _ _ = false

-- it, where its row is new
abbrev pub new_id : List ℕ → Option Status → Option Status → Option (List ℕ)
new_id id before after = if is_new before after then Some id else None

-- ---- decisions

abbrev pub decided : LeaseChange → Option Status → ℕ → Reply → Decision
decided lease row expected reply = record { change = record { lease = lease; row = row; expected = expected; counted = false }; reply = reply }

-- what is decided is that change of what is held
pub record IsChange (d : Decision) (held : Option Listed) (c : Change Listed) : Type 0 where
  pub lease : lease_left d.change.lease held ≡ c.lease
  pub row_is : d.change.row ≡ c.row
  pub expected_is : d.change.expected ≡ c.expected
  pub counted_is : d.change.counted ≡ c.counted
  pub reply : d.reply ≡ c.reply

-- why a renewal isn't counted
abbrev pub count_fault : Bool → ℕ → Option Fault
count_fault counts since = if counts && (since == most_renewals) then Some Exhausted else None

abbrev pub counted : Plain → Counted
counted p = record { last = p.last; since = p.since }

-- the plain form that is left once what was decided of the lease of a key is carried out
abbrev pub left : Plain → Key → Decided → Plain
left p k x = record p {
  leases = with_value p.leases k (lease_left x.lease (get p.leases k));
  overrides = with_value p.overrides k.id x.row;
  expected = x.expected;
  since = if x.counted then p.since + 1 else p.since;
}

-- it can be carried out: nothing but want of memory stands in its way
pub record IsReady (p : Plain) (k : Key) (x : Decided) : Type 0 where
  pub new : IsNew p.leases k x.lease
  pub bound : x.expected ≤ most_expected
  pub countable : count_fault x.counted p.since ≡ None

-- a decision on the lease of a key is that of a command: carried out it is a step of the machine, and memory may be wanted for it
pub record Decides (p : Plain) (c : Command) (t : ℕ) (k : Key) (d : Decision) : Type 0 where
  pub answers : Answers p c t (Ok d.reply) (left p k d.change)
  pub memory : Answers p c t (Err OutOfMemory) p
  pub ready : IsReady p k d.change

-- it wants no memory
pub record IsFrugal (row : Option Status) (x : Decided) : Type 0 where
  pub lease : begins x.lease ≡ false
  pub row_is : (x.row ≡ row) ⊎ (x.row ≡ None)
