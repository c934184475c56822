use Rattle.std.proofs.Common.{◌≡◌, drop}
use Rattle.eu_http.specs.Response.{first_fault}
use Rattle.eu_http.proofs.answers.first_fault.Given as goal

-- what is left has the first fault of all
abbrev pub invariant-loop-answer : goal.invariant-loop-answer
invariant-loop-answer l = first_fault (drop l.answer-index l.answers) ≡ first_fault l.answers
