-- Texts that are written one behind the other
use Rattle.std.proofs.Common.{◌≡◌, ℕ, List, ◌++◌, ◌∙◌, length, drop, ap, subst}
use Rattle.std.proofs.lemmas.List.{append_assoc}
use Rattle.std.proofs.Math.Seq.{drop-append_seam}

-- four parts, each behind what was written before
pub in_order : (a b c d e : List ℕ) → (((a ++ b) ++ c) ++ d) ++ e ≡ a ++ (b ++ (c ++ (d ++ e)))
in_order a b c d e =
    append_assoc ((a ++ b) ++ c) d e
    ∙ append_assoc (a ++ b) c (d ++ e)
    ∙ append_assoc a b (c ++ (d ++ e))

-- what stands behind a room of that length
pub behind : (n : ℕ) (room text bytes : List ℕ) → length room ≡ n → bytes ≡ room ++ text → drop n bytes ≡ text
behind n room text bytes len is = ap (λ b. drop n b) is ∙ subst (λ m. drop m (room ++ text) ≡ text) len (drop-append_seam room text)
