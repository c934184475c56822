-- Bodies of a given length, in the buffer and in all bytes.
use Rattle.std.proofs.Common.{◌≡◌, ℕ, ◌+◌, ◌≤◌, List, ◌++◌, length, take, drop, sym, ap, ◌∙◌, append_assoc, arith}
use Rattle.std.proofs.lemmas.List.{length-take-le, length-drop, take-append-drop, drop-append-le, drop-drop}
use Rattle.eu_framing.specs.Message.{ReadsSized}

-- what stands behind a place, in the buffer and with more bytes
pub behind : (n : ℕ) (b more : List ℕ) → n ≤ length b → drop n (b ++ more) ≡ drop n b ++ more
behind n b more within = drop-append-le n b more within

-- so many bytes from a place, and what is behind them
pub split_at : (start size : ℕ) (b : List ℕ) → drop start b ≡ take size (drop start b) ++ drop (start + size) b
split_at start size b = sym (take-append-drop size (drop start b)) ∙ ap (λ (t : List ℕ). take size (drop start b) ++ t) (drop-drop size start b)

pub sized_read : (start len : ℕ) (b body more : List ℕ) → start + len ≤ length b → body ≡ take len (drop start b) → ReadsSized len (drop start (b ++ more)) body (drop (start + len) b ++ more)
sized_read start len b body more within e =
    let inside : start ≤ length b = omega arith in
    rw e (
      length-take-le len (drop start b) (omega (arith, length-drop start b)),
      behind start b more inside ∙ ap (λ (t : List ℕ). t ++ more) (split_at start len b) ∙ append_assoc (take len (drop start b)) (drop (start + len) b) more,
    )
