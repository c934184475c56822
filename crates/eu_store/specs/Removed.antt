-- How what was removed is put back
use Rattle.std.specs.Prelude.{List, [], ◌∷◌, Option}
use Rattle.std.specs.declared.cmp.Ordering.{Ordering}
use Rattle.std.specs.FinMap.{FinMap}
use Rattle.eu_model.specs.Machine.{with_value}

-- the map with these values at these keys, or without a key that has none; the last is put first, so that the first stands at a key that comes twice
abbrev pub with_values : {K X : Type 0} {R : K → K → Ordering} → FinMap R X → List K → List (Option X) → FinMap R X
with_values m [] vs = m
with_values m (k ∷ ks) [] = m
with_values m (k ∷ ks) (v ∷ vs) = with_value (with_values m ks vs) k v
