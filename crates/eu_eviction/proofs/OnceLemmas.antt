-- Each key that is due stands once in its list
use Rattle.std.proofs.Common.{ℕ, Bool, true, false, List, map, sym, subst}
use Rattle.std.specs.List.{IsDistinct}
use Rattle.std.specs.FinMap.{FinMap, entries, entries_sorted}
use Rattle.std.proofs.lemmas.Map.Keys.{IsDistinct-from_sorted}
use Rattle.eu_base.specs.declared.names.Key.{Key}
use Rattle.eu_base.specs.Values.{key_cmp, key_eq}
use Rattle.eu_base.proofs.KeyLemmas.{key_eq-tie}
use Rattle.eu_model.specs.declared.views.Listed.{Listed}
use Rattle.eu_model.specs.PlainSteps.{plain_expired}
use Rattle.eu_store.proofs.SortedLemmas.{sorted_keys, IsDistinct-passing}
use Rattle.eu_eviction.specs.Eviction.{due}

pub IsDistinct-due : (permitted : Bool) (m : FinMap key_cmp Listed) (moment extra : ℕ) → IsDistinct key_eq (due permitted m moment extra)
unfolding IsDistinct
IsDistinct-due false m moment extra = tt
IsDistinct-due true m moment extra =
    let keys : List Key = map (λ e. e.0) (entries m) in
    let apart = IsDistinct-from_sorted key_cmp keys (sorted_keys key_cmp (entries m) (entries_sorted m)) in
    IsDistinct-passing (λ (l : Listed). plain_expired l moment extra) key_eq (entries m) (subst (λ (e : Key → Key → Bool). IsDistinct e keys) (sym key_eq-tie) apart)
