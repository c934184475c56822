-- Shares of four ledgers
use Rattle.std.specs.Prelude.{◌≡◌, ℕ, ◌<◌, ◌≤◌, ◌^◌}
use Rattle.eu_model.specs.declared.tallies.Tally.{Tally}
use Rattle.eu_shared.specs.declared.shares.Blanks.{Blanks}

-- four new ledgers have these names
abbrev pub HasNames : Blanks → ℕ → ℕ → ℕ → ℕ → Type 0
HasNames b steps counted added removed = (b.steps.name ≡ steps) × (b.counted.name ≡ counted) × (b.added.name ≡ added) × (b.removed.name ≡ removed)

-- each of them has so many parts
abbrev pub HasParts : Blanks → ℕ → Type 0
HasParts b n = (b.steps.parts ≡ n) × (b.counted.parts ≡ n) × (b.added.parts ≡ n) × (b.removed.parts ≡ n)

-- some parts, and what they count
pub record Part : Type 0 where
  pub parts : ℕ
  pub tally : Tally

-- each of the four numbers is at most the other's
abbrev pub IsAtMost : Tally → Tally → Type 0
IsAtMost a b = (a.steps ≤ b.steps) × (a.counted ≤ b.counted) × (a.added ≤ b.added) × (a.removed ≤ b.removed)

-- each fits a word
abbrev pub IsSmall : Tally → Type 0
IsSmall t = (t.steps < 2 ^ 64) × (t.counted < 2 ^ 64) × (t.added < 2 ^ 64) × (t.removed < 2 ^ 64)
