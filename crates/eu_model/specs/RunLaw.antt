-- What is so of every run from an opening: what is held is what the entries say, who sends heartbeats is kept, who is silent goes, and
-- self-preservation keeps all
use Rattle.std.specs.Prelude.{◌≡◌, ℕ, ◌+◌, ◌*◌, ◌≤◌, ◌<◌, ◌↔◌, true, false, not, ◌||◌, nat_lt, if◌then◌else◌, Option, Some, None, is_some, List, [], ◌∷◌, length, min, All, Contains}
use Rattle.std.specs.List.{IsDistinct}
use Rattle.std.specs.FinMap.{get, len}
use Rattle.eu_base.specs.declared.names.Key.{Key}
use Rattle.eu_base.specs.declared.settings.Config.{Config}
use Rattle.eu_base.specs.Values.{key_eq}
use Rattle.eu_model.specs.declared.commands.Command.TheVariants.{Update, Evict}
use Rattle.eu_model.specs.declared.commands.Entry.{Entry}
use Rattle.eu_model.specs.declared.commands.Reply.{Reply}
use Rattle.eu_model.specs.declared.commands.Reply.TheVariants.{Expected, Evicted}
use Rattle.eu_model.specs.Machine.{Record, is_expired}
use Rattle.eu_model.specs.Step.{due}
use Rattle.eu_model.specs.View.{counts}
use Rattle.eu_model.specs.Server.{Server, ServerStep, server_fault, Run, opened}
use Rattle.eu_model.specs.History.{touches, is_held, lasts_until, renewals_of_last_minute, settings, expected_by, wanted, allows, most, is_evict, granted, is_due, evicted_beside}

-- ---- what is held is what the entries say

-- a lease is held where the entries say so, and has expired where it is past the moment until which they say that it lasts, with
-- any time granted beyond
pub record IsAsSaid (lease : Option Record) (k : Key) (es : List Entry) : Type 0 where
  pub held : is_some lease ≡ is_held k es
  pub expired : (r : Record) → lease ≡ Some r → (until : ℕ) × (lasts_until k es ≡ Some until) × ((t extra : ℕ) → is_expired r t extra ≡ nat_lt (until + extra) t)

abbrev pub LeasesAreAsSaid : Type 0
LeasesAreAsSaid =
    (config : Config) (expected peers : ℕ) (es : List Entry) (s : Server) → Run (opened config expected peers) es s
    → (k : Key) → IsAsSaid (get s.machine.leases k) k es

-- the settings, the number expected and the last minute's renewals, by which evictions are permitted
pub record CountsAreAsSaid (config : Config) (expected : ℕ) (es : List Entry) (s : Server) : Type 0 where
  pub set : s.machine.config ≡ settings config es
  pub clients : s.machine.expected ≡ expected_by expected es
  pub renewals : (counts s.machine).last ≡ renewals_of_last_minute es

abbrev pub NumbersAreAsSaid : Type 0
NumbersAreAsSaid =
    (config : Config) (expected peers : ℕ) (es : List Entry) (s : Server) → Run (opened config expected peers) es s
    → CountsAreAsSaid config expected es s

-- an update answers the leases held, where they are more than the percentage of the number expected, or where self-preservation is off, and
-- else the number expected
abbrev pub UpdatesAreAsSaid : Type 0
UpdatesAreAsSaid =
    (config : Config) (expected peers : ℕ) (es : List Entry) (s : Server) (t : ℕ) (reply : Reply) (new : Server)
    → Run (opened config expected peers) es s → ServerStep s Update t reply new
    → reply ≡ Expected (if nat_lt ((settings config es).percent * expected_by expected es) (len s.machine.leases * 100) || not (settings config es).preservation
    then len s.machine.leases else expected_by expected es)

-- the leases that are due for an eviction are those that the entries say, each once
abbrev pub DueAreAsSaid : Type 0
DueAreAsSaid =
    (config : Config) (expected peers : ℕ) (es : List Entry) (s : Server) → Run (opened config expected peers) es s
    → (t : ℕ) → IsDistinct key_eq (due s.machine t) × ((k : Key) → Contains (due s.machine t) k ↔ (is_due (settings config es) es t k ≡ true))

-- ---- each eviction

-- Whom an eviction takes was silent: the newest entry that touched the lease lies further back than its duration, or twice that where
-- the entry renewed it, and the time that the eviction grants beyond. So who sends heartbeats is kept
abbrev pub WhoRenewsIsKept : Type 0
WhoRenewsIsKept =
    (config : Config) (expected peers : ℕ) (es : List Entry) (s : Server) (t : ℕ) (victims : List Key) (new : Server)
    → Run (opened config expected peers) es s → ServerStep s Evict t (Evicted victims) new
    → (k : Key) → Contains victims k
    → (until : ℕ) × (lasts_until k es ≡ Some until) × (until + granted (settings config es) es t < t)

-- an eviction may always be made: it isn't refused, and has some victims
abbrev pub EvictionsAreNeverRefused : Type 0
EvictionsAreNeverRefused =
    (s : Server) (t : ℕ) → (server_fault s Evict t ≡ None) × ((victims : List Key) × (new : Server) × ServerStep s Evict t (Evicted victims) new)

-- it takes distinct leases, that are due: as many as are due, up to its share, where it is permitted, and else none
pub record TakesItsNumber (config : Config) (expected : ℕ) (es : List Entry) (s : Server) (t : ℕ) (victims : List Key) : Type 0 where
  pub once : IsDistinct key_eq victims
  pub expired : (k : Key) → Contains victims k → Contains (due s.machine t) k
  pub number : length victims
      ≡ (if allows (settings config es) (expected_by expected es) (renewals_of_last_minute es)
      then min (length (due s.machine t)) (most (settings config es) (len s.machine.leases)) else 0)

abbrev pub EvictionsTakeTheirNumber : Type 0
EvictionsTakeTheirNumber =
    (config : Config) (expected peers : ℕ) (es : List Entry) (s : Server) (t : ℕ) (victims : List Key) (new : Server)
    → Run (opened config expected peers) es s → ServerStep s Evict t (Evicted victims) new → TakesItsNumber config expected es s t victims

-- while self-preservation is on, and the heartbeats counted in the last minute are no more than are wanted, nobody is evicted
abbrev pub PreservationKeepsAll : Type 0
PreservationKeepsAll =
    (config : Config) (expected peers : ℕ) (es : List Entry) (s : Server) (t : ℕ) (victims : List Key) (new : Server)
    → Run (opened config expected peers) es s → ServerStep s Evict t (Evicted victims) new
    → (settings config es).preservation ≡ true → renewals_of_last_minute es ≤ wanted (settings config es) (expected_by expected es) → victims ≡ []

-- ---- evictions that follow one another

-- how many an eviction may take here: its share where it is permitted, and else none
abbrev pub may_evict : Server → ℕ
may_evict s = if allows s.machine.config s.machine.expected (counts s.machine).last then most s.machine.config (len s.machine.leases) else 0

-- how many the evictions of a run may take together
abbrev pub all_may_evict : (es : List Entry) (s end : Server) → Run s es end → ℕ
all_may_evict [] s end run = 0
all_may_evict (e ∷ es) s end run = (if is_evict e.command then may_evict s else 0) + all_may_evict es run.0 end run.3

-- Who is silent goes. Take some leases that are due at an eviction, and let the run go on: nothing touches them, and no eviction comes
-- before the moment of that first one. Once all its evictions together might have taken as many leases as these, and as many more as
-- the times that they took others, none of them is held
abbrev pub WhoIsSilentGoes : Type 0
WhoIsSilentGoes =
    (config : Config) (expected peers : ℕ) (es : List Entry) (s : Server) → Run (opened config expected peers) es s
    → (eviction : Entry) (later : List Entry) (end : Server) (run : Run s (eviction ∷ later) end) (ks : List Key)
    → is_evict eviction.command ≡ true → ((k : Key) → Contains ks k → Contains (due s.machine eviction.moment) k)
    → All (λ e. (k : Key) → Contains ks k → touches k e.command e.reply ≡ false) later
    → All (λ e. is_evict e.command ≡ true → eviction.moment ≤ e.moment) later
    → length ks + evicted_beside ks (eviction ∷ later) ≤ all_may_evict (eviction ∷ later) s end run
    → (k : Key) → Contains ks k → get end.machine.leases k ≡ None
