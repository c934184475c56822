-- A request that is put under a path
use Rattle.std.proofs.Common.{◌≡◌, ◌∷◌, ◌==◌, ◌∙◌, ℕ, Bool, List, true, false, not, length, nat_eq, codes, ap, refl}
use Rattle.std.specs.Prelude.{◌&&◌}
use Rattle.std.proofs.lemmas.Bool.Decides.{Decides-eqb}
use Rattle.std.proofs.lemmas.Slice.Eq.{starts_is}
use Rattle.std.specs.List.{starts_with}
use Rattle.eu_workers.specs.Long.{is_front, is_long}

abbrev put : List ℕ → List ℕ
put rest = 80 ∷ 85 ∷ 84 ∷ 32 ∷ 47 ∷ rest

-- a request that begins so is none of those that take long: each path and each other method differs from it at a byte that is known
no_more : (b : Bool) → (b && false) ≡ false
no_more true = refl
no_more false = refl

put_is_no_front : (rest : List ℕ) → is_front (put rest) ≡ false
put_is_no_front rest = no_more (not (length (put rest) == 0))

put_before : (rest : List ℕ) → is_long (put rest) ≡ false
put_before rest = rw (put_is_no_front rest) refl

pub put_is_short : (bytes : List ℕ) → starts_with nat_eq bytes (codes "PUT /") ≡ true → is_long bytes ≡ false
put_is_short bytes h = ap is_long ((starts_is Decides-eqb bytes (codes "PUT /") _ refl).0 h) ∙ put_before _
