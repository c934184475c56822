-- One step of writing: a piece, and the member that is put behind it
use Rattle.std.proofs.Common.{◌≡◌, ℕ, ◌+◌, ◌≤◌, List, [], ◌∷◌, ◌++◌, length, take, drop, sym, ap, ap₂, ◌∙◌, arith, append_assoc, length-append}
use Rattle.std.proofs.Math.Seq.{take-append_seam, drop-append_seam}
use Rattle.json.specs.Print.{quoted}
use Rattle.serde_json.specs.Data.{Data, Members}
use Rattle.serde_json.specs.Written.{compact_text}
use Rattle.eu_text.specs.declared.cut.Cut.{Cut}
use Rattle.eu_text.specs.Text.{led, led_member, before, named, behind, merged}
use Rattle.eu_text.proofs.TextLemmas.{led_cut}

-- a piece of what is left
pub record IsPiece (k : List ℕ) (ms : Members) (bytes : List ℕ) (cut : Cut) : Type 0 where
  pub fits : cut.before + cut.named ≤ length bytes
  pub piece : take cut.before bytes ≡ led (before k ms)
  pub left : drop (cut.before + cut.named) bytes ≡ led (behind k ms)

pub piece_of : (k : List ℕ) (ms : Members) (bytes : List ℕ) (cut : Cut) → bytes ≡ led ms
    → cut ≡ record { before = length (led (before k ms)); named = length (led (named k ms)) } → IsPiece k ms bytes cut
piece_of k ms bytes cut is at =
    let front = led (before k ms) in
    let middle = led (named k ms) in
    let end = led (behind k ms) in
    let first = ap (λ (c : Cut). c.before) at in
    let second = ap (λ (c : Cut). c.named) at in
    let all = is ∙ sym (led_cut k ms) in
    let both = sym (append_assoc front middle end) in
    let len = ap₂ (◌+◌) first second ∙ sym (length-append front middle) in
    record {
      fits = omega (arith, len, ap length (all ∙ both), length-append (front ++ middle) end);
      piece = ap₂ take first all ∙ take-append_seam front (middle ++ end);
      left = ap₂ drop len (all ∙ both) ∙ drop-append_seam (front ++ middle) end;
    }

four : (p k v m e : List ℕ) → (p ++ ((44 ∷ (k ++ 58 ∷ v)) ++ m)) ++ e ≡ p ++ 44 ∷ (k ++ 58 ∷ (v ++ (m ++ e)))
four p k v m e = append_assoc p _ e ∙ ap (λ s. p ++ 44 ∷ s) (ap (λ s. s ++ e) (append_assoc k (58 ∷ v) m) ∙ append_assoc k (58 ∷ (v ++ m)) e ∙ ap (λ s. k ++ 58 ∷ s) (append_assoc v m e))

-- what is written up to here, and what is still to be
pub step : (k lead value : List ℕ) (d : Data) (os : List (List ℕ × Data)) (ms : Members) (bytes out0 out1 : List ℕ) (cut : Cut)
    → ((s : List ℕ) → lead ++ s ≡ 44 ∷ (quoted k ++ 58 ∷ s)) → value ≡ compact_text d → IsPiece k ms bytes cut
    → ((s : List ℕ) → out1 ++ s ≡ out0 ++ (take cut.before bytes ++ (lead ++ (value ++ s))))
    → (e : List ℕ) → out1 ++ (merged os (behind k ms) ++ e) ≡ out0 ++ (merged ((k, d) ∷ os) ms ++ e)
step k lead value d os ms bytes out0 out1 cut leads is piece wrote e =
    let rest = merged os (behind k ms) ++ e in
    wrote rest
    ∙ ap (λ s. out0 ++ s) (ap₂ (◌++◌) piece.piece (leads (value ++ rest) ∙ ap (λ v. 44 ∷ (quoted k ++ 58 ∷ (v ++ rest))) is)
    ∙ sym (four (led (before k ms)) (quoted k) (compact_text d) (merged os (behind k ms)) e))

-- a value that is appended behind its lead
pub then_value : (out0 out1 out2 front lead value : List ℕ) → ((s : List ℕ) → out1 ++ s ≡ out0 ++ (front ++ (lead ++ s))) → out2 ≡ out1 ++ value
    → (s : List ℕ) → out2 ++ s ≡ out0 ++ (front ++ (lead ++ (value ++ s)))
then_value out0 out1 out2 front lead value wrote is s = ap (λ o. o ++ s) is ∙ append_assoc out1 value s ∙ wrote (value ++ s)
