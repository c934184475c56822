-- The loop with the fewest sessions, one loop after the other
use Rattle.std.proofs.Common.{◌≡◌, ◌≤◌, ◌<◌, ◌+◌, ◌⊎◌, ℕ, List, get_or, max, ⊎_elim, ap, arith}
use Rattle.std.proofs.lemmas.Bool.{cases_lt}
use Rattle.eu_accept.specs.Turns.{IsFewest}

-- where there is no loop
pub none_yet : (sessions : List ℕ) → IsFewest sessions 0 0
none_yet sessions = record { within = omega arith; fewest = λ other before. absurd (omega (arith, before)); first = λ other before. absurd (omega (arith, before)) }

-- one more, which has fewer
pub fewer_yet : (sessions : List ℕ) (count number : ℕ) → IsFewest sessions count number → get_or sessions count 0 < get_or sessions number 0 → IsFewest sessions (count + 1) count
fewer_yet sessions count number is fewer = record {
  within = omega arith;
  fewest = λ other before. ⊎_elim
      (λ earlier. omega (arith, fewer, is.fewest other earlier))
      (λ here. let last : other ≡ count = omega (arith, before, here) in omega (arith, fewer, ap (λ (k : ℕ). get_or sessions k 0) last))
      (cases_lt other count);
  first = λ other before. omega (arith, fewer, is.fewest other before);
}

-- one more, which has no fewer
pub no_fewer : (sessions : List ℕ) (count number : ℕ) → IsFewest sessions count number → get_or sessions number 0 ≤ get_or sessions count 0 → IsFewest sessions (count + 1) number
no_fewer sessions count number is more = record {
  within = omega (arith, is.within);
  fewest = λ other before. ⊎_elim
      (λ earlier. is.fewest other earlier)
      (λ here. let last : other ≡ count = omega (arith, before, here) in omega (arith, more, ap (λ (k : ℕ). get_or sessions k 0) last))
      (cases_lt other count);
  first = is.first;
}
