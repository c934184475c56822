use Rattle.std.proofs.Common.{◌≡◌, ◌<◌, ℕ, get_or}
use Rattle.eu_routes.proofs.paths.is_uncoded.Given as goal

-- none so far begins an escape
abbrev pub invariant-loop-byte : goal.invariant-loop-byte
invariant-loop-byte l = (k : ℕ) → k < l.byte-index → get_or l.segment k 0 ≡ 37 → ⊥
