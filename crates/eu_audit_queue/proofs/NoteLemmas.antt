-- The notes of when tasks were queued
use Rattle.std.proofs.Common.{◌≡◌, ℕ, ◌+◌, ◌≤◌, Bool, true, false, true≢false, cond, not, ◌&&◌, inl, inr, List, [], ◌∷◌, ◌++◌, map, eqb, ltb, nat_cmp, is_eq, is_gt, Less, Equal, Greater, refl, sym, ap, ◌∙◌, arith}
use Rattle.std.specs.Ordering.{ordering_then}
use Rattle.std.specs.BTreeSet.{BTreeSet, Updates, contains}
use Rattle.std.proofs.lemmas.Bool.{and_left, and_right, or_parts, ne_eqb, eqb-true, ltb-true, lt-ltb, le-ltb, cases_Bool}
use Rattle.eu_base.specs.declared.tasks.Task.{Task}
use Rattle.eu_base.specs.Values.{key_cmp, same_name}
use Rattle.eu_base.proofs.KeyLemmas.{is_eq-then, key_eq-ties}
use Rattle.eu_model.specs.Server.{is_old, live}
use Rattle.eu_audit_queue.specs.declared.name.Name.{Name}
use Rattle.eu_audit_queue.specs.declared.ages.Note.{Note}
use Rattle.eu_audit_queue.specs.Names.{AreNoted, HasNoOld, HasOldOnly, has_name, name_of, names_eq, note_at, note_cmp, note_of, without_old}
use Rattle.eu_audit_queue.proofs.NameLemmas.{for_same}

-- ---- the order of notes

is_eq-nat : (a b : ℕ) → is_eq (nat_cmp a b) ≡ eqb a b
is_eq-nat a b = by (ltb a b) refl (eqb a b) refl
  where
    by : (l : Bool) → ltb a b ≡ l → (e : Bool) → eqb a b ≡ e → is_eq (cond l Less (cond e Equal Greater)) ≡ e
    by true h true k = let below = ltb-true a b h in let same = eqb-true a b k in absurd (omega arith)
    by true h false k = refl
    by false h true k = refl
    by false h false k = refl

-- notes are equal where both parts are
pub note_eq : (a b : Note) → is_eq (note_cmp a b) ≡ (eqb a.queued b.queued && names_eq a.name b.name)
note_eq a b =
    is_eq-then (nat_cmp a.queued b.queued) _
    ∙ (λ i. is_eq-nat a.queued b.queued i && (is_eq-then (nat_cmp a.name.action b.name.action) (key_cmp a.name.key b.name.key) ∙ (λ j. is_eq-nat a.name.action b.name.action j && sym (key_eq-ties a.name.key b.name.key) j)) i)

-- a note that isn't behind another is of no later moment
pub first_before : (a b : Note) → is_gt (note_cmp a b) ≡ false → a.queued ≤ b.queued
first_before a b h = by (ltb a.queued b.queued) refl (eqb a.queued b.queued) refl h
  where
    by : (l : Bool) → ltb a.queued b.queued ≡ l → (e : Bool) → eqb a.queued b.queued ≡ e
        → is_gt (ordering_then (cond l Less (cond e Equal Greater)) (ordering_then (nat_cmp a.name.action b.name.action) (key_cmp a.name.key b.name.key))) ≡ false → a.queued ≤ b.queued
    by true l e k h = omega (arith, ltb-true a.queued b.queued l)
    by false l true k h = omega (arith, eqb-true a.queued b.queued k)
    by false l false k h = absurd (true≢false h)

-- ---- what is noted

pub noted_push : (s : BTreeSet Note) (t : Task) (ts : List Task) → AreNoted s ts → contains note_cmp s (note_of t) ≡ true → AreNoted s (ts ++ t ∷ [])
noted_push s t [] h here = (here, tt)
noted_push s t (x ∷ xs) h here = (h.0, noted_push s t xs h.1 here)

module _ (s n : BTreeSet Note) where
  -- one more note
  pub noted_more : (k : Note) (ts : List Task) → Updates note_cmp s n k true → AreNoted s ts → AreNoted n ts
  noted_more k [] u h = tt
  noted_more k (x ∷ xs) u h = (u.0 (note_of x) ∙ by (is_eq (note_cmp k (note_of x))) h.0, noted_more k xs u h.1)
    where
      by : (b : Bool) → contains note_cmp s (note_of x) ≡ true → cond b true (contains note_cmp s (note_of x)) ≡ true
      by true e = refl
      by false e = e

  -- another note is taken out
  stays : (k : Note) (x : Task) → Updates note_cmp s n k false → (eqb k.queued x.queued && names_eq k.name (name_of x)) ≡ false → contains note_cmp s (note_of x) ≡ true → contains note_cmp n (note_of x) ≡ true
  stays k x u other h = u.0 (note_of x) ∙ ap (λ b. cond b false (contains note_cmp s (note_of x))) (note_eq k (note_of x) ∙ other) ∙ h

  -- that of a name that none of them has
  pub noted_forget : (q : ℕ) (k : Name) (ts : List Task) → Updates note_cmp s n (note_at q k) false → has_name k ts ≡ false → AreNoted s ts → AreNoted n ts
  noted_forget q k [] u none h = tt
  noted_forget q k (x ∷ xs) u none h =
      let p = or_parts (names_eq k (name_of x)) (has_name k xs) none in
      (stays (note_at q k) x u (and_right (eqb q x.queued) (names_eq k (name_of x)) p.0) h.0, noted_forget q k xs u p.1 h.1)

  -- that of an old task, which goes with it
  pub noted_without : (m : ℕ) (k : Name) (ts : List Task) → HasOldOnly m k s n → AreNoted s ts → AreNoted n (without_old m k ts)
  noted_without m k [] u h = tt
  noted_without m k (x ∷ xs) u h = by (names_eq k (name_of x) && is_old m x) refl (noted_without m k xs u h.1)
    where
      differs : (names_eq k (name_of x) && is_old m x) ≡ false → (b : Bool) → eqb u.0 x.queued ≡ b → (b && names_eq k (name_of x)) ≡ false
      differs young false e = refl
      differs young true e =
          let same = eqb-true u.0 x.queued e in
          let before = u.1 in
          let old : is_old m x ≡ true = lt-ltb (x.queued + 30000) m (omega arith) in
          (elim (cases_Bool (names_eq k (name_of x))) [
            | inl there ↦ absurd (true≢false (sym (λ i. there i && old i) ∙ young))
            | inr none ↦ none
          ])

      by : (b : Bool) → (names_eq k (name_of x) && is_old m x) ≡ b → AreNoted n (without_old m k xs) → AreNoted n (cond (not b) (x ∷ without_old m k xs) (without_old m k xs))
      by true e r = r
      by false e r = (stays (note_at u.0 k) x u.2 (differs e (eqb u.0 x.queued) refl) h.0, r)

-- a task takes the place of the one of its name
module _ (s n : BTreeSet Note) (t : Task) where
  pub noted_for : (ts : List Task) → Updates note_cmp s n (note_of t) true → AreNoted s ts → AreNoted n (map (for_same t) ts)
  noted_for [] u h = tt
  noted_for (x ∷ xs) u h = (by (same_name t x), noted_for xs u h.1)
    where
      by : (b : Bool) → contains note_cmp n (note_of (cond b t x)) ≡ true
      by true = u.1
      by false = (noted_more s n (note_of t) (x ∷ []) u (h.0, tt)).0

  pub noted_for_other : (q : ℕ) (ts : List Task) → Updates note_cmp s n (note_at q (name_of t)) false → (q ≡ t.queued → ⊥) → AreNoted s (map (for_same t) ts) → AreNoted n (map (for_same t) ts)
  noted_for_other q [] u later h = tt
  noted_for_other q (x ∷ xs) u later h = (by (same_name t x) refl h.0, noted_for_other q xs u later h.1)
    where
      k : Note
      k = note_at q (name_of t)

      by : (b : Bool) → same_name t x ≡ b → contains note_cmp s (note_of (cond b t x)) ≡ true → contains note_cmp n (note_of (cond b t x)) ≡ true
      by true e g = stays s n k t u (and_left (eqb q t.queued) (names_eq (name_of t) (name_of t)) (ne_eqb q t.queued later)) g
      by false e g = stays s n k x u (and_right (eqb q x.queued) (names_eq (name_of t) (name_of x)) e) g

-- ---- what is worth sending

pub live-without : (m : ℕ) (k : Name) (ts : List Task) → live m (without_old m k ts) ≡ live m ts
live-without m k [] = refl
live-without m k (x ∷ xs) = by (names_eq k (name_of x)) (is_old m x) refl (live-without m k xs)
  where
    rest : List Task
    rest = without_old m k xs

    by : (a b : Bool) → is_old m x ≡ b → live m rest ≡ live m xs → live m (cond (not (a && b)) (x ∷ rest) rest) ≡ cond (not b) (x ∷ live m xs) (live m xs)
    by true true e r = r
    by true false e r = λ i. cond (not (e i)) (x ∷ r i) (r i)
    by false true e r = λ i. cond (not (e i)) (x ∷ r i) (r i)
    by false false e r = λ i. cond (not (e i)) (x ∷ r i) (r i)

-- where no note is old, no task is
pub all_live : (m : ℕ) (s : BTreeSet Note) (ts : List Task) → HasNoOld m s → AreNoted s ts → live m ts ≡ ts
all_live m s [] none h = refl
all_live m s (x ∷ xs) none h =
    let young : is_old m x ≡ false = le-ltb (x.queued + 30000) m (none (note_of x) h.0) in
    λ i. cond (not (young i)) (x ∷ all_live m s xs none h.1 i) (live m xs)
