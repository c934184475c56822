-- A loop that changes each of some counts
use Rattle.std.proofs.Common.{◌≡◌, ℕ, ◌+◌, ◌<◌, ap, sym, ◌∙◌, List, [], ◌∷◌, ◌++◌, get_or, set, length, map, take, drop, arith}
use Rattle.std.proofs.lemmas.List.{drop-set-lt, get_or-drop, map_more, take_more_set}
use Rattle.std.proofs.lemmas.Grind.{drop_more_same}
use Rattle.eu_gate.specs.declared.tally.Count.{Count}

-- once one more is changed
pub changed_more : (f : Count → Count) (initial xs : List Count) (i : ℕ) (d : Count) → i < length initial → i < length xs → take i xs ≡ map f (take i initial)
    → drop i xs ≡ drop i initial → take (i + 1) (set xs i (f (get_or xs i d))) ≡ map f (take (i + 1) initial)
changed_more f initial xs i d in_initial in_xs so_far left =
    let here : i + 0 ≡ i = omega arith in
    let same : get_or xs i d ≡ get_or initial i d =
    ap (λ n. get_or xs n d) (sym here) ∙ sym (get_or-drop i xs 0 d) ∙ ap (λ l. get_or l 0 d) left ∙ get_or-drop i initial 0 d ∙ ap (λ n. get_or initial n d) here in
    take_more_set xs i (f (get_or xs i d)) in_xs ∙ ap (λ l. l ++ f (get_or xs i d) ∷ []) so_far ∙ ap (λ x. map f (take i initial) ++ f x ∷ []) same
    ∙ sym (map_more f initial i d in_initial)

-- and the others stay
pub left_more : (initial xs : List Count) (i : ℕ) (x : Count) → drop i xs ≡ drop i initial → drop (i + 1) (set xs i x) ≡ drop (i + 1) initial
left_more initial xs i x left = drop-set-lt (i + 1) xs i x (omega arith) ∙ drop_more_same xs initial i left
