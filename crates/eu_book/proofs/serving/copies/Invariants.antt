use Rattle.std.proofs.Common.{◌≡◌, replicate}
use Rattle.eu_book.proofs.serving.copies.Given as goal

-- so many so far
abbrev pub invariant-loop : goal.invariant-loop
invariant-loop l = l.copies.items ≡ replicate l.counter l.key
