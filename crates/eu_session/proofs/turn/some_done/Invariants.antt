use Rattle.std.proofs.Common.{◌≡◌, drop}
use Rattle.std.specs.List.{list_any}
use Rattle.eu_session.specs.Session.{is_done}
use Rattle.eu_session.proofs.turn.some_done.Given as goal

-- as much of what is left was done as of all
abbrev pub invariant-loop-answer : goal.invariant-loop-answer
invariant-loop-answer l = list_any is_done (drop l.answer-index l.answers) ≡ list_any is_done l.answers
