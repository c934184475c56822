use Rattle.std.proofs.Common.{[], true}
use Rattle.std.proofs.lemmas.Result.{err_from_is_err_and}
use Rattle.eu_session.proofs.TalkLemmas.{takes_end, takes_close, takes_refusal, takes_answering, takes_refusing, takes_on}
use Rattle.eu_session.proofs.talk.take_turn.Goals as goal

pub returns-in-Ok-None-clause-turn : goal.returns-in-Ok-None-clause-turn
returns-in-Ok-None-clause-turn g c =
    takes_end c.args.policy.now g.D.Desk.asked g.C.Clock.tells _ _ _ _ _ _ [] true true (rw c.in-Ok-None.field-0-is at c.in-Ok-None.ensures.found)

pub returns-in_err-answer_request-clause-turn : goal.returns-in_err-answer_request-clause-turn
returns-in_err-answer_request-clause-turn g c =
    let p = err_from_is_err_and c.from_residual-in_err-answer_request.result c.from_residual-in_err-answer_request.ensures.1 in
    rw (p.1, p.2) (takes_answering c.args.policy.now g.D.Desk.asked g.C.Clock.tells _ _ c.in-Ok-Some.request c.is_last-close.result _ _ _ _ _ _ _ _ _ _ _
    (rw c.in-Ok-Some.field-0-is at c.in-Ok-Some.ensures.found) c.in_err-answer_request.ensures.answers c.is_last-close.ensures)

pub returns-then-close-clause-turn : goal.returns-then-close-clause-turn
returns-then-close-clause-turn g c =
    takes_close c.args.policy.now g.D.Desk.asked g.C.Clock.tells _ _ c.in-Ok-Some.request c.is_last-close.result _ _ _ _ _ _ _ [] true true
    (rw c.in-Ok-Some.field-0-is at c.in-Ok-Some.ensures.found) c.in_ok-answer_request.ensures.answers c.is_last-close.ensures c.if-close.true

pub returns-in_err-refuse-in-Err-clause-turn : goal.returns-in_err-refuse-in-Err-clause-turn
returns-in_err-refuse-in-Err-clause-turn g c =
    let p = err_from_is_err_and c.from_residual.result c.from_residual.ensures.1 in
    rw (p.1, p.2) (takes_refusing c.args.policy.now g.D.Desk.asked g.C.Clock.tells _ _ c.in-Err.fault _ _ _ _ _ _ _ _ _
    c.in-Err.ensures.fault c.in_err-refuse-in-Err.ensures.refuses)

pub returns-in-Err-clause-turn : goal.returns-in-Err-clause-turn
returns-in-Err-clause-turn g c =
    takes_refusal c.args.policy.now g.D.Desk.asked g.C.Clock.tells _ _ c.in-Err.fault _ _ _ _ _ _ _ true
    c.in-Err.ensures.fault c.in_ok-refuse-in-Err.ensures.refuses

pub returns-clause-turn : goal.returns-clause-turn
returns-clause-turn g c =
    takes_on c.args.policy.now g.D.Desk.asked g.C.Clock.tells _ _ c.in-Ok-Some.request c.is_last-close.result _ _ _ _ _ _ _ [] true true
    c.args.talk.now.few (rw c.in-Ok-Some.field-0-is at c.in-Ok-Some.ensures.found) c.in_ok-answer_request.ensures.answers c.is_last-close.ensures c.if-close.false
