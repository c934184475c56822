use Rattle.std.proofs.Common.{◌≡◌, ◌<◌, ℕ, Some, get_or, slice_get}
use Rattle.std.specs.Map.{values_of}
use Rattle.eu_model.specs.declared.views.Listed.{Listed}
use Rattle.eu_store.specs.Brief.{IsShort}
use Rattle.eu_store.proofs.directory.Directory.is_brief.Given as goal

-- what stands at the places so far is short
abbrev pub invariant-loop-place : goal.invariant-loop-place
invariant-loop-place l = (j : ℕ) (h : Listed) → j < l.place-index → slice_get (values_of l.entries) (get_or l.places j 0) ≡ Some h → IsShort l.short h.instance
