-- What a walk over two lists, side by side, says at its end
use Rattle.std.proofs.Common.{◌≡◌, ◌↔◌, Bool, true, false, not, true≢false, List, [], ◌∷◌, length, refl, sym, ap, Option, None, Some, is_some, IsTrue, Bor, arith}
use Rattle.std.proofs.Common.{Iter}
use Rattle.std.specs.Slice.Iter.{iter_rest, iter_steps}

pub no_entry : {A : Type 0} (xs : List A) → length xs ≡ 0 → xs ≡ []
no_entry [] h = refl
no_entry (x ∷ xs) h = absurd (omega arith)

-- a walk is over where nothing comes next
pub over : {A : Type 0} (s t : Iter A) (r : Option (Bor A)) (b : Bool) → iter_steps s r t → is_some r ≡ not b → IsTrue b ↔ (length (iter_rest s) ≡ 0)
over s t None true h e = ((λ _. h.0), (λ _. refl))
over s t None false h e = absurd (true≢false (sym e))
over s t (Some x) true h e = absurd (true≢false e)
over s t (Some x) false h e = ((λ f. absurd (true≢false (sym f))), (λ none. absurd (omega (arith, ap length h, none))))
