-- Where two lists first differ
use Rattle.std.proofs.Common.{◌≡◌, ℕ, ◌+◌, ◌≤◌, ◌<◌, List, [], ◌∷◌, ◌++◌, Option, Some, None, length, refl, sym, ap, ◌∙◌, arith, append_assoc, take, Bool, true, false, get_or, suc}
use Rattle.std.specs.Prelude.{◌≢◌, slice_get, IsTrue, All, nat_lt, ◌==◌, if◌then◌else◌}
use Rattle.std.proofs.Math.Seq.{take-append_seam}
use Rattle.eu_book.specs.declared.journal.Logged.{Logged}
use Rattle.eu_settle.specs.declared.closed.PassLog.{PassLog}
use Rattle.eu_model.specs.declared.commands.Entry.{Entry}
use Rattle.eu_settle.specs.Settled.{DiffersFirst, IsSettledAt, from_first, part_of, log_at, logged_of}
use Rattle.std.proofs.lemmas.Bool.Decides.{nat_tests}

none_some : (y : Logged) (o : Option Logged) → o ≡ None → o ≡ Some y → ⊥
none_some y o a b = cc

some_same : {x y : Logged} → Some x ≡ Some y → x ≡ y
some_same e = cc

-- the item after a beginning
pub slice_get_after : (p xs : List Logged) → slice_get (p ++ xs) (length p) ≡ slice_get xs 0
slice_get_after [] xs = refl
slice_get_after (x ∷ p) xs = slice_get_after p xs

-- after one beginning, two lists differ at their heads
pub differs_after : (k : ℕ) (p xs ys l m : List Logged) → length p ≡ k → l ≡ p ++ xs → m ≡ p ++ ys → slice_get xs 0 ≢ slice_get ys 0 → DiffersFirst k l m
differs_after k p xs ys l m len is_l is_m ne =
    let a : slice_get l k ≡ slice_get xs 0 = (λ i. slice_get (is_l i) (sym len i)) ∙ slice_get_after p xs in
    let b : slice_get m k ≡ slice_get ys 0 = (λ i. slice_get (is_m i) (sym len i)) ∙ slice_get_after p ys in
    let s : take k l ≡ p = (λ i. take (sym len i) (is_l i)) ∙ take-append_seam p xs in
    let t : take k m ≡ p = (λ i. take (sym len i) (is_m i)) ∙ take-append_seam p ys in
    record { before = s ∙ sym t; there = λ e. ne (sym a ∙ (e ∙ b)) }

-- one item more in the beginning
pub beginning_more : (k : ℕ) (p xs rest l : List Logged) (x : Logged) → l ≡ p ++ xs → xs ≡ x ∷ rest → l ≡ (p ++ x ∷ []) ++ rest
beginning_more k p xs rest l x is xs_is = is ∙ (ap (λ w. p ++ w) xs_is ∙ sym (append_assoc p (x ∷ []) rest))

-- the first list ends where the other goes on
pub ends_here : (xs ys r : List Logged) (y : Logged) → xs ≡ [] → ys ≡ y ∷ r → slice_get xs 0 ≢ slice_get ys 0
ends_here xs ys r y a b e = none_some y (slice_get xs 0) (ap (λ w. slice_get w 0) a) (e ∙ ap (λ w. slice_get w 0) b)

-- the other list ends where the first goes on
pub ends_there : (xs ys r : List Logged) (x : Logged) → xs ≡ x ∷ r → ys ≡ [] → slice_get xs 0 ≢ slice_get ys 0
ends_there xs ys r x a b e = ends_here ys xs r x b a (sym e)

-- the heads differ
pub heads_differ : (xs ys r s : List Logged) (x y : Logged) → xs ≡ x ∷ r → ys ≡ y ∷ s → x ≢ y → slice_get xs 0 ≢ slice_get ys 0
heads_differ xs ys r s x y a b ne e = ne (some_same (sym (ap (λ w. slice_get w 0) a) ∙ (e ∙ ap (λ w. slice_get w 0) b)))

pub absurd_false : IsTrue false → ⊥
absurd_false e = cc

tested : (a b : ℕ) → (a == b) ≡ true → a ≡ b
tested a b e = grind (arith, nat_tests)

log_at_go : (b : Bool) (l : PassLog) (rest : List Logged) → (b ≡ true → ⊥) → rest ≡ [] → (if b then l.log.items else rest) ≡ []
log_at_go true l rest miss none = absurd (miss refl)
log_at_go false l rest miss none = none

-- the log of a pass that no log has
pub log_at_none : (n : ℕ) (logs : List PassLog) → ((k : ℕ) (d : PassLog) → k < length logs → (get_or logs k d).pass ≡ n → ⊥) → log_at n logs ≡ []
log_at_none n [] none = refl
log_at_none n (l ∷ ls) none = log_at_go (l.pass == n) l (log_at n ls) (λ e. none 0 l (omega arith) (tested l.pass n e)) (log_at_none n ls (λ k d h at. none (suc k) d (omega arith) at))

part_go : (b : Bool) (x : Logged) (rest : List Logged) → (b ≡ true → ⊥) → rest ≡ [] → (if b then x ∷ rest else rest) ≡ []
part_go true x rest miss none = absurd (miss refl)
part_go false x rest miss none = none

-- the part of a pass that no entry has
pub part_of_none : (n : ℕ) (es : List Entry) → ((k : ℕ) (d : Entry) → k < length es → (get_or es k d).pass ≡ n → ⊥) → part_of n es ≡ []
part_of_none n [] none = refl
part_of_none n (e ∷ es) none = part_go (e.pass == n) (logged_of e) (part_of n es) (λ h. none 0 e (omega arith) (tested e.pass n h)) (part_of_none n es (λ k d h at. none (suc k) d (omega arith) at))

below_go : (P : ℕ → Type 0) (from next n : ℕ) → ((m : ℕ) → m < from → P m) → ((m : ℕ) → from ≤ m → m < next → P m) → n < next → (b : Bool) → nat_lt n from ≡ b → P n
below_go P from next n low high less true e = low n (grind (arith, nat_tests))
below_go P from next n low high less false e = high n (grind (arith, nat_tests)) less

module _ (first : ℕ) (logs : List PassLog) (entries : List Entry) where
  -- the numbers between have no log and no entry
  pub gap : (from next : ℕ) → All (λ (l : PassLog). from ≤ l.pass → next ≤ l.pass) logs → All (λ (e : Entry). from ≤ e.pass → next ≤ e.pass) entries
      → (n : ℕ) → from ≤ n → n < next → IsSettledAt first logs entries n
  gap from next of_logs of_entries n low high =
      let a = log_at_none n logs (λ k d h is. let g : from ≤ (get_or logs k d).pass = omega arith in let e = of_logs k d h g in omega arith) in
      let b = part_of_none n entries (λ k d h is. let g : from ≤ (get_or entries k d).pass = omega arith in let e = of_entries k d h g in omega arith) in
      ap (from_first first) a ∙ sym b

  -- all below the next number are settled
  pub all_below : (from a b next : ℕ) → All (λ (l : PassLog). from ≤ l.pass → a ≤ l.pass) logs → All (λ (e : Entry). from ≤ e.pass → b ≤ e.pass) entries → next ≤ a → next ≤ b
      → ((n : ℕ) → n < from → IsSettledAt first logs entries n) → (n : ℕ) → n < next → IsSettledAt first logs entries n
  all_below from a b next of_logs of_entries la lb low n less =
      below_go (IsSettledAt first logs entries) from next n low
      (gap from next (λ k d h g. let t = of_logs k d h g in omega arith) (λ k d h g. let t = of_entries k d h g in omega arith)) less (nat_lt n from) refl
