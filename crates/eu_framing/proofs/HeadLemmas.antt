-- What a look at the first bytes says of all bytes that are still to come.
use Rattle.std.proofs.Common.{Bool, true, false, not, ◌&&◌, eqb, ⊎_elim, length-append, ◌≡◌, ℕ, ◌+◌, ◌-◌, ◌<◌, ◌≤◌, inl, inr, List, [], ◌∷◌, ◌++◌, length, take, refl, sym, ap, ◌∙◌, subst, append_assoc, append-nil, arith}
use Rattle.std.proofs.lemmas.List.{take-append-le, take_all}
use Rattle.std.proofs.lemmas.Bool.{cases_lt, cases_Bool, and_parts, eqb-true, false≢true}
use Rattle.std.proofs.Math.Seq.{take-append-add}
use Rattle.httparse.specs.Grammar.{LineEnd, print_blank, crlf, lf, HasNoRequest, NeverHasRequest}
use Rattle.httparse.specs.Spans.{RequestExceeds}
use Rattle.eu_base.specs.declared.faults.Fault.TheVariants as faults
use Rattle.eu_framing.specs.Message.{IsHeadFault, IsBlank, max_head, max_fields}
use Rattle.eu_framing.specs.Steps.{blank_lines}

take_front_short : (n : ℕ) (xs ys : List ℕ) → length xs < n → take n (xs ++ ys) ≡ take n xs ++ take (n - length xs) ys
take_front_short n xs ys short =
    let long : length xs ≤ n = omega arith in
    let split : n ≡ length xs + (n - length xs) = omega arith in
    ap (λ (m : ℕ). take m (xs ++ ys)) split ∙ take-append-add xs ys (n - length xs) ∙ ap (λ (t : List ℕ). t ++ take (n - length xs) ys) (sym (take_all n xs long))

take_front_long : (n : ℕ) (xs ys : List ℕ) → n ≤ length xs → take n (xs ++ ys) ≡ take n xs ++ take (n - length xs) ys
take_front_long n xs ys long =
    let none : n - length xs ≡ 0 = omega arith in
    rw none (take-append-le n xs ys long ∙ sym (append-nil (take n xs)))

-- the window over a front is a front of the window
pub take_front : (n : ℕ) (xs ys : List ℕ) → take n (xs ++ ys) ≡ take n xs ++ take (n - length xs) ys
take_front n xs ys = ⊎_elim (take_front_short n xs ys) (take_front_long n xs ys) (cases_lt (length xs) n)

never_more : (w more : List ℕ) → NeverHasRequest w → NeverHasRequest (w ++ more)
never_more w more never tail = rw append_assoc (never (more ++ tail))

exceeds_more : (w more : List ℕ) → RequestExceeds max_fields w → RequestExceeds max_fields (w ++ more)
exceeds_more w more x = (x.0, x.1 ++ more, ap (λ (t : List ℕ). t ++ more) x.2 ∙ append_assoc x.0 x.1 more, x.3, x.4, x.5)

-- the faults of the window are those of all bytes
pub head_exceeds : (buffer more : List ℕ) → RequestExceeds max_fields (take max_head buffer) → IsHeadFault (buffer ++ more) faults.HeadTooLong
head_exceeds buffer more x = inl (refl, inr (subst (RequestExceeds max_fields) (sym (take_front max_head buffer more)) (exceeds_more _ _ x)))

pub head_never : (buffer more : List ℕ) → NeverHasRequest (take max_head buffer) → IsHeadFault (buffer ++ more) faults.BadHead
head_never buffer more x = inr (refl, inl (subst NeverHasRequest (sym (take_front max_head buffer more)) (never_more _ _ x)))

pub head_long : (buffer more : List ℕ) → max_head ≤ length buffer → HasNoRequest (take max_head buffer) → IsHeadFault (buffer ++ more) faults.HeadTooLong
head_long buffer more long x = inl (refl, inl (omega (arith, length-append buffer more), subst HasNoRequest (sym (take-append-le max_head buffer more long)) x))

-- a CR that was seen, and then the bytes
abbrev after_cr : Bool → List ℕ → List ℕ
after_cr true bytes = 13 ∷ bytes
after_cr false bytes = bytes

blank_lf : (cr : Bool) (bytes : List ℕ) → IsBlank bytes → IsBlank (after_cr cr (10 ∷ bytes))
blank_lf true bytes (ends, e) = (crlf ∷ ends, ap (λ (t : List ℕ). 13 ∷ 10 ∷ t) e)
blank_lf false bytes (ends, e) = (lf ∷ ends, ap (λ (t : List ℕ). 10 ∷ t) e)

blank_other : (cr : Bool) (b : ℕ) (bytes : List ℕ) → (blank_lines true bytes ≡ true → IsBlank (13 ∷ bytes)) → ((eqb b 13 && not cr) && blank_lines true bytes) ≡ true → IsBlank (after_cr cr (b ∷ bytes))
blank_other true b bytes h e = absurd (false≢true (and_parts (eqb b 13) false (and_parts _ _ e).0).1)
blank_other false b bytes h e =
    let both = and_parts (eqb b 13 && true) (blank_lines true bytes) e in
    let is : b ≡ 13 = eqb-true b 13 (and_parts (eqb b 13) true both.0).0 in rw is (h both.1)

blank_step : (cr : Bool) (b : ℕ) (bytes : List ℕ) → (blank_lines false bytes ≡ true → IsBlank bytes) → (blank_lines true bytes ≡ true → IsBlank (13 ∷ bytes)) → blank_lines cr (b ∷ bytes) ≡ true → IsBlank (after_cr cr (b ∷ bytes))
blank_step cr b bytes f g e = ⊎_elim
    (λ (q : eqb b 10 ≡ true). let is : b ≡ 10 = eqb-true b 10 q in let k = rw q at e in rw is (blank_lf cr bytes (f k)))
    (λ (q : eqb b 10 ≡ false). blank_other cr b bytes g (rw q at e))
    (cases_Bool (eqb b 10))

-- the test finds empty lines, and misses none
pub blank_found : (cr : Bool) (bytes : List ℕ) → blank_lines cr bytes ≡ true → IsBlank (after_cr cr bytes)
blank_found true [] e = absurd (false≢true e)
blank_found false [] e = ([], refl)
blank_found cr (b ∷ bytes) e = blank_step cr b bytes (blank_found false bytes) (blank_found true bytes) e

blank_passes : (ends : List LineEnd) → blank_lines false (print_blank ends) ≡ true
blank_passes [] = refl
blank_passes (lf ∷ ends) = blank_passes ends
blank_passes (crlf ∷ ends) = blank_passes ends

pub not_blank : (bytes : List ℕ) → blank_lines false bytes ≡ false → ¬ (IsBlank bytes)
not_blank bytes e x = false≢true (sym e ∙ (ap (blank_lines false) x.1 ∙ blank_passes x.0))

-- a window that is the whole text
pub window_all : (bytes : List ℕ) → length bytes < max_head → take max_head bytes ≡ bytes
window_all bytes short = take_all max_head bytes (omega arith)

pub head_cut : (bytes : List ℕ) → length bytes < max_head → HasNoRequest (take max_head bytes) → blank_lines false bytes ≡ false → IsHeadFault bytes faults.BadHead
head_cut bytes short none text = inr (refl, inr (short, subst HasNoRequest (window_all bytes short) none, not_blank bytes text))

-- no bytes behind these
pub no_more : (P : List ℕ → Type 0) (bytes : List ℕ) → ((more : List ℕ) → P (bytes ++ more)) → P bytes
no_more P bytes x = subst P (append-nil bytes) (x [])
