use Rattle.std.proofs.Common.{◌≡◌, ℕ, ◌<◌, length, get_or, slice_get, Some}
use Rattle.eu_model.specs.declared.views.Listed.{Listed}
use Rattle.eu_store.proofs.MapLemmas.{nobody}
use Rattle.eu_store.proofs.leases.Leases.expired_counted.Given as goal

-- so far the keys are those at the places
abbrev pub invariant-loop-place : goal.invariant-loop-place
invariant-loop-place l = record {
  long : length l.keys.items ≡ l.place-index;
  told : (j : ℕ) → j < l.place-index → (v : Listed) × (slice_get l.entries (get_or l.place-items j 0) ≡ Some (get_or l.keys.items j nobody, v));
}
