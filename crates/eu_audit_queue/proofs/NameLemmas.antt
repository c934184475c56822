-- The names of tasks: where two are equal by their test they are the same
use Rattle.std.proofs.Common.{◌≡◌, Bool, true, false, cond, ◌||◌, List, [], ◌∷◌, map, eqb, refl, sym, ap, ◌∙◌}
use Rattle.std.proofs.lemmas.Bool.{and_parts, and_from, eqb-true, eq-eqb, or_parts}
use Rattle.eu_base.specs.declared.tasks.Task.{Task}
use Rattle.eu_base.specs.Values.{same_name}
use Rattle.eu_base.proofs.KeyLemmas.{key_eq-Decides}
use Rattle.eu_model.specs.Server.{waits}
use Rattle.eu_audit_queue.specs.declared.name.Name.{Name}
use Rattle.eu_audit_queue.specs.Names.{name_of, names_eq, has_name}

pub names_same : (a b : Name) → names_eq a b ≡ true → a ≡ b
names_same a b h =
    let p = and_parts (eqb a.action b.action) _ h in
    let action = eqb-true a.action b.action p.0 in
    let key = (key_eq-Decides a.key b.key).0 p.1 in
    λ i. record { action = action i; key = key i }

pub names_refl : (a : Name) → names_eq a a ≡ true
names_refl a = and_from (eqb a.action a.action) _ (eq-eqb a.action a.action refl) ((key_eq-Decides a.key a.key).1 refl)

alike : (x y : Bool) → (x ≡ true → y ≡ true) → (y ≡ true → x ≡ true) → x ≡ y
alike true y f g = sym (f refl)
alike false true f g = g refl
alike false false f g = refl

pub names_flip : (a b : Name) → names_eq a b ≡ names_eq b a
names_flip a b =
    let turn : (c d : Name) → names_eq c d ≡ true → names_eq d c ≡ true = λ c d h. ap (names_eq d) (names_same c d h) ∙ names_refl d in
    alike (names_eq a b) (names_eq b a) (turn a b) (turn b a)

pub same_name-flips : (a b : Task) → same_name a b ≡ same_name b a
same_name-flips a b = names_flip (name_of a) (name_of b)

-- ---- a task in the place of the one of its name

abbrev pub for_same : Task → Task → Task
for_same t other = cond (same_name t other) t other

-- it has the name of the one before
pub name-for_same : (t x : Task) → name_of (for_same t x) ≡ name_of x
name-for_same t x = by (same_name t x) refl
  where
    by : (b : Bool) → same_name t x ≡ b → name_of (cond b t x) ≡ name_of x
    by true e = names_same (name_of t) (name_of x) e
    by false e = refl

pub has_name-for_same : (n : Name) (t : Task) (ts : List Task) → has_name n (map (for_same t) ts) ≡ has_name n ts
has_name-for_same n t [] = refl
has_name-for_same n t (x ∷ xs) = λ i. names_eq n (name-for_same t x i) || has_name-for_same n t xs i

-- where none of its name is there, nothing changes
pub map-for_same : (t : Task) (ts : List Task) → has_name (name_of t) ts ≡ false → map (for_same t) ts ≡ ts
map-for_same t [] h = refl
map-for_same t (x ∷ xs) h = let p = or_parts (same_name t x) (waits t xs) h in λ i. cond (p.0 i) t x ∷ map-for_same t xs p.1 i
