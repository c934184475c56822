-- What an eviction takes out
use Rattle.std.specs.Prelude.{ℕ, Bool, true, false, List, [], length, min}
use Rattle.std.specs.FinMap.{FinMap, len}
use Rattle.eu_base.specs.declared.names.Key.{Key}
use Rattle.eu_base.specs.declared.settings.Config.{Config}
use Rattle.eu_base.specs.Values.{key_cmp}
use Rattle.eu_model.specs.declared.views.Listed.{Listed}
use Rattle.eu_model.specs.Machine.{share}
use Rattle.eu_store.specs.Stored.{expired_keys}
use Rattle.eu_clock.specs.Front.{Asks, front}

-- the keys that have expired, in key order, where eviction is permitted
abbrev pub due : Bool → FinMap key_cmp Listed → ℕ → ℕ → List Key
due false leases t extra = []
due true leases t extra = expired_keys leases t extra

-- how many of them go
abbrev pub number_of : Config → FinMap key_cmp Listed → List Key → ℕ
number_of c leases keys = min (length keys) (share c (len leases))

-- those that go: the front for the chooser's next words
abbrev pub drawn : {S : Type 0} → Asks S → Config → FinMap key_cmp Listed → List Key → S → List Key
drawn asks c leases keys s = front asks (number_of c leases keys) keys s
