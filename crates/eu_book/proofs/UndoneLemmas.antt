-- Entries that are undone, the last one first
use Rattle.std.proofs.Common.{◌≡◌, ℕ, ◌+◌, ◌-◌, ◌<◌, ◌≤◌, List, [], ◌∷◌, ◌++◌, length, take, get_or, Option, refl, ap, sym, ◌∙◌, arith}
use Rattle.std.proofs.lemmas.List.{take_more, length-take-le}
use Rattle.eu_core.specs.declared.undo.Undo.{Undo}
use Rattle.eu_model.specs.declared.commands.Entry.{Entry}
use Rattle.eu_model.specs.Plain.{Plain}
use Rattle.eu_core.specs.Undone.{undone}
use Rattle.eu_book.specs.Undone.{undone_all}

-- one entry more at the end is undone before all
pub undone_all-push : (es : List Entry) (us : List Undo) (e : Entry) (u : Undo) (p : Plain) → length us ≡ length es
    → undone_all (es ++ e ∷ []) (us ++ u ∷ []) p ≡ undone_all es us (undone e.command u p)
undone_all-push [] [] e u p alike = refl
undone_all-push [] (v ∷ us) e u p alike = absurd (omega (arith, alike))
undone_all-push (d ∷ es) [] e u p alike = absurd (omega (arith, alike))
undone_all-push (d ∷ es) (v ∷ us) e u p alike =
    let rest : length us ≡ length es = omega (arith, alike) in
    ap (undone d.command v) (undone_all-push es us e u p rest)

-- where the last of those that are left is undone, the others lead from there to what all of them lead to
pub undone_more : (p now x : Plain) (es : List Entry) (us : List Undo) (left : ℕ) (e : Entry) (u : Undo) → 0 < left → left ≤ length es → length us ≡ length es
    → e ≡ get_or es (left - 1) e → u ≡ get_or us (left - 1) u → now ≡ undone e.command u p
    → undone_all (take left es) (take left us) p ≡ x → undone_all (take (left - 1) es) (take (left - 1) us) now ≡ x
undone_more p now x es us left e u some within alike e_is u_is is h =
    let n : left ≡ left - 1 + 1 = omega arith in
    let below : left - 1 < length es = omega arith in
    let below_us : left - 1 < length us = omega arith in
    let short : left - 1 ≤ length es = omega arith in
    let short_us : left - 1 ≤ length us = omega arith in
    let entries : take left es ≡ take (left - 1) es ++ e ∷ [] = ap (λ k. take k es) n ∙ take_more es (left - 1) e below ∙ ap (λ r. take (left - 1) es ++ r ∷ []) (sym e_is) in
    let undos : take left us ≡ take (left - 1) us ++ u ∷ [] = ap (λ k. take k us) n ∙ take_more us (left - 1) u below_us ∙ ap (λ r. take (left - 1) us ++ r ∷ []) (sym u_is) in
    let still = length-take-le (left - 1) us short_us ∙ sym (length-take-le (left - 1) es short) in
    ap (undone_all (take (left - 1) es) (take (left - 1) us)) is
    ∙ sym (undone_all-push (take (left - 1) es) (take (left - 1) us) e u p still)
    ∙ (λ i. undone_all (sym entries i) (sym undos i) p) ∙ h
