-- Lines that are put one after the other
use Rattle.std.proofs.Common.{◌≡◌, ℕ, ◌+◌, ◌<◌, List, [], ◌∷◌, ◌++◌, length, drop, get_or, refl, ap, sym, ◌∙◌, append_assoc, add-one}
use Rattle.std.proofs.Math.Seq.{drop-cons}
use Rattle.std.specs.List.{AllByRecursion}
use Rattle.eu_journal.specs.declared.lines.JournalLine.{JournalLine}
use Rattle.eu_journal_text.specs.Text.{line_text, lines_text}

pub lines_text_append : (xs ys : List JournalLine) → lines_text (xs ++ ys) ≡ lines_text xs ++ lines_text ys
lines_text_append [] ys = refl
lines_text_append (x ∷ xs) ys = ap (λ (t : List ℕ). line_text x ++ t) (lines_text_append xs ys) ∙ sym (append_assoc (line_text x) (lines_text xs) (lines_text ys))

pub all_append : (P : JournalLine → Type 0) (xs ys : List JournalLine) → AllByRecursion P xs → AllByRecursion P ys → AllByRecursion P (xs ++ ys)
all_append P [] ys h k = k
all_append P (x ∷ xs) ys h k = (h.0, all_append P xs ys h.1 k)

-- three parts, put one after the other
pub put_three : (a b c d : List ℕ) (l : JournalLine) (xs ys : List JournalLine) → b ≡ a ++ line_text l → c ≡ b ++ lines_text xs → d ≡ c ++ lines_text ys → d ≡ a ++ lines_text (l ∷ (xs ++ ys))
put_three a b c d l xs ys p q r = rw (r, q, p, lines_text_append xs ys) (simp append_assoc)

pub put_two : (a b c : List ℕ) (xs ys : List JournalLine) → b ≡ a ++ lines_text xs → c ≡ b ++ lines_text ys → c ≡ a ++ lines_text (xs ++ ys)
put_two a b c xs ys p q = rw (q, p, lines_text_append xs ys) (simp append_assoc)

-- what is left from a place on
drop_here : {A : Type 0} (xs : List A) (i : ℕ) (x : A) → x ≡ get_or xs i x → i < length xs → drop i xs ≡ x ∷ drop (i + 1) xs
drop_here xs i x is lt = drop-cons xs i x lt ∙ rw (← is, add-one i) refl

-- parts, each of some lines, are put one after the other
module _ {A : Type 0} (part : A → List JournalLine) (parts : List A → List JournalLine) (cons : (y : A) (ys : List A) → parts (y ∷ ys) ≡ part y ++ parts ys) where
  pub put_next : (xs : List A) (i : ℕ) (x : A) (a b whole : List ℕ) → x ≡ get_or xs i x → i < length xs → a ++ lines_text (parts (drop i xs)) ≡ whole → b ≡ a ++ lines_text (part x) → b ++ lines_text (parts (drop (i + 1) xs)) ≡ whole
  put_next xs i x a b whole is lt before put =
      rw put (append_assoc a (lines_text (part x)) (lines_text (parts (drop (i + 1) xs))))
      ∙ ap (λ (t : List ℕ). a ++ t) (sym (lines_text_append (part x) (parts (drop (i + 1) xs))) ∙ ap lines_text (sym (cons x (drop (i + 1) xs)) ∙ ap parts (sym (drop_here xs i x is lt))))
      ∙ before

  pub all_next : (P : JournalLine → Type 0) (W : Type 0) (xs : List A) (i : ℕ) (x : A) → x ≡ get_or xs i x → i < length xs → (AllByRecursion P (parts (drop i xs)) → W) → AllByRecursion P (part x)
      → AllByRecursion P (parts (drop (i + 1) xs)) → W
  all_next P W xs i x is lt before here rest = before (rw (drop_here xs i x is lt, cons x (drop (i + 1) xs)) (all_append P (part x) (parts (drop (i + 1) xs)) here rest))
