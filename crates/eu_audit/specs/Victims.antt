-- The victims of an eviction, one after the other
use Rattle.std.specs.Prelude.{ℕ, Bool, true, false, ◌&&◌, List, [], ◌∷◌}
use Rattle.std.specs.Option.{option_map_or}
use Rattle.std.specs.FinMap.{FinMap, get, remove}
use Rattle.eu_base.specs.declared.names.Key.{Key}
use Rattle.eu_base.specs.Values.{key_cmp}
use Rattle.eu_model.specs.declared.views.Listed.{Listed}
use Rattle.eu_model.specs.PlainSteps.{plain_expired}

-- each is held and has expired, where those before it are gone
abbrev pub takes : FinMap key_cmp Listed → ℕ → ℕ → List Key → Bool
takes leases t extra [] = true
takes leases t extra (k ∷ ks) = option_map_or (λ l. plain_expired l t extra) (get leases k) false && takes (remove leases k) t extra ks
