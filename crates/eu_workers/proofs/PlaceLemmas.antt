-- Where the first byte stands that passes a test
use Rattle.std.proofs.Common.{◌≡◌, ◌≤◌, ◌<◌, ℕ, List, Bool, true, false, not, length, get_or, le_of_lt, sym, arith}
use Rattle.std.specs.List.{position_or_len}
use Rattle.std.proofs.lemmas.List.Sums.{position_or_len_is, prefix_len-le-length}

-- where all before it fail, and it passes
pub place_is : (test : ℕ → Bool) (bytes : List ℕ) (i : ℕ) → i < length bytes → ((k : ℕ) → k < i → test (get_or bytes k 0) ≡ false) → test (get_or bytes i 0) ≡ true → i ≡ position_or_len test bytes
place_is test bytes i within fail pass = sym (position_or_len_is test bytes i 0 (le_of_lt within) fail (λ _. pass))

-- at the end, where all fail
pub place_none : (test : ℕ → Bool) (bytes : List ℕ) (i : ℕ) → i ≡ length bytes → ((k : ℕ) → k < i → test (get_or bytes k 0) ≡ false) → i ≡ position_or_len test bytes
place_none test bytes i end fail = sym (position_or_len_is test bytes i 0 (omega (arith, end)) fail (λ within. absurd (omega (arith, end, within))))

pub place_within : (test : ℕ → Bool) (bytes : List ℕ) → position_or_len test bytes ≤ length bytes
place_within test bytes = prefix_len-le-length (λ byte. not (test byte)) bytes
