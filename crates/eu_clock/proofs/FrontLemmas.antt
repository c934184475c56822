-- One draw more
use Rattle.std.proofs.Common.{◌≡◌, ℕ, suc, ◌+◌, ◌-◌, ◌<◌, List, length, ap, sym, ◌∙◌, arith}
use Rattle.std.specs.List.{swap}
use Rattle.eu_clock.specs.Front.{Asks, shuffled_from, state_from}

one_fewer : (i n : ℕ) → i < n → n - i ≡ suc (n - (i + 1))
one_fewer i n h = omega arith

module _ {S : Type 0} (asks : Asks S) (i n : ℕ) (s t : S) (w len : ℕ) (here : i < n) (asked : (w, t) ≡ asks s (len - i)) where
  -- the swap leads to the same list
  pub shuffled_from-step : {X : Type 0} (xs ys : List X) → len ≡ length xs → ys ≡ swap xs i (i + w)
      → shuffled_from asks (i + 1) (n - (i + 1)) ys t ≡ shuffled_from asks i (n - i) xs s
  shuffled_from-step {X} xs ys long swapped =
      ap (λ zs. shuffled_from asks (i + 1) (n - (i + 1)) zs t) swapped
      ∙ ap (λ (a : ℕ × S). shuffled_from asks (i + 1) (n - (i + 1)) (swap xs i (i + a.0)) a.1) (asked ∙ ap (λ k. asks s (k - i)) long)
      ∙ ap (λ k. shuffled_from asks i k xs s) (sym (one_fewer i n here))

  -- and to the same state
  pub state_from-step : state_from asks (i + 1) (n - (i + 1)) len t ≡ state_from asks i (n - i) len s
  state_from-step =
      ap (λ (a : ℕ × S). state_from asks (i + 1) (n - (i + 1)) len a.1) asked
      ∙ ap (λ k. state_from asks i k len s) (sym (one_fewer i n here))
