-- A log from a number on
use Rattle.std.proofs.Common.{◌≡◌, ◌∙◌, ℕ, ◌≤◌, List, [], ◌∷◌, ◌++◌, refl, sym, ap, arith, true, false}
use Rattle.std.specs.Prelude.{cond, filter, nat_le}
use Rattle.std.proofs.lemmas.Bool.Decides.{nat_tests}
use Rattle.eu_book.specs.declared.journal.Logged.{Logged}
use Rattle.eu_settle.specs.Settled.{from_first}

-- one that isn't below it is kept
kept : (first n : ℕ) → first ≤ n → nat_le first n ≡ true
kept first n fits = grind (arith, nat_tests)

pub from_first_filters : (first : ℕ) (ls : List Logged) → filter (λ (l : Logged). nat_le first l.number) ls ≡ from_first first ls
from_first_filters first [] = refl
from_first_filters first (l ∷ ls) = ap (λ xs. cond (nat_le first l.number) (l ∷ xs) xs) (from_first_filters first ls)

pub from_nothing : (ls : List Logged) → from_first 0 ls ≡ ls
from_nothing [] = refl
from_nothing (l ∷ ls) = ap (λ b. cond b (l ∷ from_first 0 ls) (from_first 0 ls)) (kept 0 l.number (omega (arith))) ∙ ap (λ xs. l ∷ xs) (from_nothing ls)

pub from_first_on : (first : ℕ) (ls ms : List Logged) → from_first first (ls ++ ms) ≡ from_first first ls ++ from_first first ms
from_first_on first [] ms = refl
from_first_on first (l ∷ ls) ms =
    elim (nat_le first l.number) as (λ b. cond b (l ∷ from_first first (ls ++ ms)) (from_first first (ls ++ ms)) ≡ cond b (l ∷ from_first first ls) (from_first first ls) ++ from_first first ms) [
      | true ↦ ap (λ xs. l ∷ xs) (from_first_on first ls ms)
      | false ↦ from_first_on first ls ms
    ]

-- a log with one more behind it that isn't below the number
pub from_first_push : (first : ℕ) (ls : List Logged) (l : Logged) → from_first first ls ≡ ls → first ≤ l.number → from_first first (ls ++ (l ∷ [])) ≡ ls ++ (l ∷ [])
from_first_push first ls l is fits =
    from_first_on first ls (l ∷ []) ∙ ap (λ xs. xs ++ from_first first (l ∷ [])) is ∙ ap (λ b. ls ++ cond b (l ∷ []) []) (kept first l.number fits)

-- what is below a number is below each greater one
passed : (first later n : ℕ) → first ≤ later → nat_le first n ≡ false → nat_le later n ≡ false
passed first later n less below = grind (arith, nat_tests)

pub from_later : (first later : ℕ) → first ≤ later → (ls : List Logged) → from_first later (from_first first ls) ≡ from_first later ls
from_later first later less [] = refl
from_later first later less (l ∷ ls) =
    elim (nat_le first l.number) as (λ b. nat_le first l.number ≡ b → from_first later (cond b (l ∷ from_first first ls) (from_first first ls)) ≡ cond (nat_le later l.number) (l ∷ from_first later ls) (from_first later ls)) [
      | true ↦ λ _. ap (λ xs. cond (nat_le later l.number) (l ∷ xs) xs) (from_later first later less ls)
      | false ↦ λ below. from_later first later less ls ∙ ap (λ b. cond b (l ∷ from_first later ls) (from_first later ls)) (sym (passed first later l.number less below))
    ] refl

-- the same, by its parts
pub pushed : (journal_first later : ℕ) (ls ms : List Logged) (l : Logged) → later ≡ journal_first → from_first journal_first ls ≡ ls → later ≤ l.number → ms ≡ ls ++ (l ∷ []) → from_first later ms ≡ ms
pushed journal_first later ls ms l same fresh fits is =
    ap (from_first later) is ∙ from_first_push later ls l (ap (λ n. from_first n ls) same ∙ fresh) fits ∙ sym is

-- a log that was trimmed is trimmed
pub trimmed_is : (journal_first : ℕ) (ls ms : List Logged) → ms ≡ from_first journal_first ls → from_first journal_first ms ≡ ms
trimmed_is journal_first ls ms is = ap (from_first journal_first) is ∙ from_later journal_first journal_first (omega (arith)) ls ∙ sym is
