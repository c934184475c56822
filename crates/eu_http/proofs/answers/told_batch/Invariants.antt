use Rattle.std.proofs.Common.{◌≡◌, map, take}
use Rattle.eu_http.specs.Response.{item_of}
use Rattle.eu_http.proofs.answers.told_batch.Given as goal

-- the items so far
abbrev pub invariant-loop-answer : goal.invariant-loop-answer
invariant-loop-answer l = l.items.items ≡ map item_of (take l.answer-index l.answers)
