use Rattle.std.proofs.Common.{◌≡◌, ◌<◌, ℕ, get_or}
use Rattle.eu_routes.proofs.queries.is_plain.Given as goal

-- none so far is beyond ASCII, and none is an escape
abbrev pub invariant-loop-byte : goal.invariant-loop-byte
invariant-loop-byte l = record {
  ascii : (k : ℕ) → k < l.byte-index → get_or l.bytes k 0 < 128;
  plus : (k : ℕ) → k < l.byte-index → get_or l.bytes k 0 ≡ 43 → ⊥;
  percent : (k : ℕ) → k < l.byte-index → get_or l.bytes k 0 ≡ 37 → ⊥;
}
