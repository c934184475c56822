-- Nothing but the plain form decides what may happen next, and what is so of every eviction
use Rattle.std.specs.Prelude.{◌≡◌, ℕ, ◌+◌, ◌≤◌, true, Some, List, [], length, Contains}
use Rattle.std.specs.FinMap.{get, len}
use Rattle.eu_base.specs.declared.names.Key.{Key}
use Rattle.eu_model.specs.declared.commands.Command.{Command}
use Rattle.eu_model.specs.declared.commands.Command.TheVariants.{Evict}
use Rattle.eu_model.specs.declared.commands.Reply.{Reply}
use Rattle.eu_model.specs.declared.commands.Reply.TheVariants.{Evicted}
use Rattle.eu_model.specs.declared.views.Query.{Query}
use Rattle.eu_model.specs.Machine.{Record, is_expired, last, threshold, share, Machine}
use Rattle.eu_model.specs.Delta.{added_by, removed_by}
use Rattle.eu_model.specs.Step.{extra_time, Step, fault}
use Rattle.eu_model.specs.View.{view}
use Rattle.eu_model.specs.Plain.{plain, Plain}

-- what one machine may answer and go on to, another of the same plain form may too, with the same plain form after
abbrev pub StepsAlike : Type 0
StepsAlike =
    (s s' : Machine) (c : Command) (t : ℕ) (reply : Reply) (new : Machine) → plain s ≡ plain s' → Step s c t reply new
    → (new' : Machine) × Step s' c t reply new' × (plain new' ≡ plain new)

-- what one refuses, the other does too, for the same fault
abbrev pub FaultsAlike : Type 0
FaultsAlike = (s s' : Machine) (c : Command) (t : ℕ) → plain s ≡ plain s' → fault s c t ≡ fault s' c t

-- what is seen of one is seen of the other
abbrev pub ViewsAlike : Type 0
ViewsAlike = (s s' : Machine) (q : Query) (t : ℕ) → plain s ≡ plain s' → view s q t ≡ view s' q t

-- each plain form is that of some machine
abbrev pub EachIsHeld : Type 0
EachIsHeld = (p : Plain) → (s : Machine) × (plain s ≡ p)

-- ---- evictions

-- whoever an eviction takes held a lease that had expired, with the extra time that the eviction grants
abbrev pub VictimsHaveExpired : Type 0
VictimsHaveExpired =
    (s : Machine) (t : ℕ) (victims : List Key) (new : Machine) → Step s Evict t (Evicted victims) new → (k : Key) → Contains victims k
    → (r : Record) × (get s.leases k ≡ Some r) × (is_expired r t (extra_time s.config s.previous t) ≡ true)

-- no eviction takes more than the share of the leases that are held
abbrev pub EvictionsKeepTheShare : Type 0
EvictionsKeepTheShare =
    (s : Machine) (t : ℕ) (victims : List Key) (new : Machine) → Step s Evict t (Evicted victims) new → length victims ≤ share s.config (len s.leases)

-- while self-preservation is on and the last minute's renewals are at most the threshold, nobody is evicted
abbrev pub PreservationForbids : Type 0
PreservationForbids =
    (s : Machine) (t : ℕ) (victims : List Key) (new : Machine) → Step s Evict t (Evicted victims) new
    → s.config.preservation ≡ true → last s.marks ≤ threshold s.config s.expected → victims ≡ []

-- ---- accounts

-- as many leases are held after a step as before, with those that came by it and without those that went
abbrev pub LeasesAreAccounted : Type 0
LeasesAreAccounted =
    (s : Machine) (c : Command) (t : ℕ) (reply : Reply) (new : Machine) → Step s c t reply new
    → len new.leases + removed_by c reply ≡ len s.leases + added_by c reply
