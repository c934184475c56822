-- Codes, one after the other
use Rattle.std.proofs.Common.{◌≡◌, ◌≢◌, ℕ, ◌<◌, Bool, true, false, List, [], ◌∷◌, ◌++◌, length, Option, Some, None, nat_lt, nat_le, cond, refl, ap, sym, ◌∙◌, arith, append_assoc}
use Rattle.std.proofs.lemmas.List.{append-nil}
use Rattle.std.specs.Option.{unwrap_or}
use Rattle.eu_lines.specs.declared.faults.LineError.{LineError}
use Rattle.eu_lines.specs.declared.faults.LineError.TheVariants.{Bad, OutOfMemory}
use Rattle.eu_words.specs.Words.{◌>>=◌, Fails, number, number_at, code_at, codes_of}

-- these codes, and those behind them
abbrev pub with_front : List ℕ → Option (List ℕ) → Option (List ℕ)
with_front front None = None
with_front front (Some codes) = Some (front ++ codes)

abbrev Read : Type 0
Read = ℕ × List (List ℕ)

-- a number that was read, and the words behind it
abbrev read : List (List ℕ) → ℕ → Option Read
read ws n = Some (n, ws)

-- the same with these words behind it
abbrev before : List (List ℕ) → Read → Option Read
before ws m = read ws m.0

-- a number that is no code
abbrev from_100 : Read → Option Read
from_100 m = cond (nat_lt m.0 100) None (Some m)

-- the code that a number is, and the words behind it
abbrev coded : List (List ℕ) → Option ℕ → Option Read
coded ws o = (o >>= λ n. cond (nat_le n 999) (read ws n) None) >>= from_100

-- a code is the same whatever stands behind it
behind_low : (low : Bool) (n : ℕ) (ws : List (List ℕ)) → cond low None (read ws n) ≡ (cond low None (read [] n) >>= before ws)
behind_low true n ws = refl
behind_low false n ws = refl

behind_most : (most : Bool) (n : ℕ) (ws : List (List ℕ)) → (cond most (read ws n) None >>= from_100) ≡ ((cond most (read [] n) None >>= from_100) >>= before ws)
behind_most true n ws = behind_low (nat_lt n 100) n ws
behind_most false n ws = refl

behind : (o : Option ℕ) (ws : List (List ℕ)) → coded ws o ≡ (coded [] o >>= before ws)
behind None ws = refl
behind (Some n) ws = behind_most (nat_le n 999) n ws

code_behind : (w : List ℕ) (ws : List (List ℕ)) → code_at (w ∷ ws) ≡ (code_at (w ∷ []) >>= before ws)
unfolding code_at number_at
code_behind w ws = behind (number w) ws

-- a code before others
abbrev onto : Option (List ℕ) → Read → Option (List ℕ)
onto rest m = rest >>= λ ns. Some (m.0 ∷ ns)

onto_is : (rest : Option (List ℕ)) (m : Read) (n : ℕ) → m.0 ≡ n → onto rest m ≡ with_front (n ∷ []) rest
onto_is None m n is = refl
onto_is (Some ns) m n is = ap (λ k. Some (k ∷ ns)) is

-- a code that was read stands before those that the words left say
first : (one : Option Read) (ws left : List (List ℕ)) (n : ℕ) → (one >>= before ws) ≡ read left n
    → (ws ≡ left) × ((rest : Option (List ℕ)) → (one >>= onto rest) ≡ with_front (n ∷ []) rest)
first None ws left n e = cc
first (Some m) ws left n e =
    let same : (m.0, ws) ≡ (n, left) = ap (λ o. unwrap_or o (n, left)) e in
    (ap (λ q. q.1) same, λ rest. onto_is rest m n (ap (λ q. q.0) same))

pub code_first : (ws left : List (List ℕ)) (n : ℕ) → code_at ws ≡ read left n → (codes_of ws ≡ with_front (n ∷ []) (codes_of left)) × (length left < length ws)
unfolding code_at number_at
code_first [] left n e = cc
code_first (w ∷ ws) left n e =
    let p = first (code_at (w ∷ [])) ws left n (sym (code_behind w ws) ∙ e) in
    (p.1 (codes_of ws) ∙ ap (λ l. with_front (n ∷ []) (codes_of l)) p.0, omega (arith, ap length p.0))

-- words whose first is no code say none
no_first : (one : Option Read) (ws : List (List ℕ)) (rest : Option (List ℕ)) → (one >>= before ws) ≡ None → (one >>= onto rest) ≡ None
no_first None ws rest e = refl
no_first (Some m) ws rest e = cc

pub no_code : (ws : List (List ℕ)) → ws ≢ [] → code_at ws ≡ None → codes_of ws ≡ None
no_code [] some e = absurd (some refl)
no_code (w ∷ ws) some e = no_first (code_at (w ∷ [])) ws (codes_of ws) (sym (code_behind w ws) ∙ e)

-- ---- on the way

pub no_front : (rest : Option (List ℕ)) → with_front [] rest ≡ rest
no_front None = refl
no_front (Some ns) = refl

pub whole_front : (front : List ℕ) → with_front front (Some []) ≡ Some front
whole_front front = ap Some (append-nil front)

-- one code more
pub one_more_code : (front : List ℕ) (n : ℕ) (rest : Option (List ℕ)) → with_front (front ++ n ∷ []) rest ≡ with_front front (with_front (n ∷ []) rest)
one_more_code front n None = refl
one_more_code front n (Some ns) = ap Some (append_assoc front (n ∷ []) ns)

-- where the first of the words left is no code, none were said
pub code_fails : (front : List ℕ) (ws : List (List ℕ)) (said : Option (List ℕ)) (e : LineError) → ws ≢ [] → with_front front (codes_of ws) ≡ said → Fails e (code_at ws) → Fails e said
code_fails front ws said Bad some is fails = sym is ∙ ap (with_front front) (no_code ws some fails)
code_fails front ws said OutOfMemory some is fails = tt
