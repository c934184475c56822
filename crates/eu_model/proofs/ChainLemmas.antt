-- One more step at the end.
use Rattle.std.proofs.Common.{List, [], ◌∷◌, ◌++◌, refl, subst}
use Rattle.std.specs.List.{AllByRecursion}
use Rattle.eu_model.specs.Chain.{Chain, Pairs}

pub chain_push : {S T : Type 0} (step : S → T → S → Type 0) (old : S) (xs : List T) (mid : S) (x : T) (new : S) → Chain step old xs mid → step mid x new → Chain step old (xs ++ x ∷ []) new
chain_push step old [] mid x new done here = (new, subst (λ (s : _). step s x new) done here, refl)
chain_push step old (y ∷ ys) mid x new done here = (done.0, done.1, chain_push step done.0 ys mid x new done.2 here)

pub pairs_push : {S A R : Type 0} (step : S → A → R → S → Type 0) (old : S) (xs : List A) (rs : List R) (mid : S) (x : A) (r : R) (new : S) → Pairs step old xs rs mid → step mid x r new → Pairs step old (xs ++ x ∷ []) (rs ++ r ∷ []) new
pairs_push step old [] [] mid x r new done here = (new, subst (λ (s : _). step s x r new) done here, refl)
pairs_push step old (y ∷ ys) (q ∷ qs) mid x r new done here = (done.0, done.1, pairs_push step done.0 ys qs mid x r new done.2 here)
pairs_push step old [] (q ∷ qs) mid x r new done here = absurd done
pairs_push step old (y ∷ ys) [] mid x r new done here = absurd done

pub all_push : {T : Type 0} (P : T → Type 0) (xs : List T) (x : T) → AllByRecursion P xs → P x → AllByRecursion P (xs ++ x ∷ [])
all_push P [] x done here = (here, tt)
all_push P (y ∷ ys) x done here = (done.0, all_push P ys x done.1 here)
