use Rattle.std.proofs.lemmas.Result.{err_from_is_err_and}
use Rattle.eu_session.proofs.TurnLemmas.{answered, unanswered, unwritten}
use Rattle.eu_session.proofs.turn.answer_request.Goals as goal

pub returns-in_default-answer-clause-answers : goal.returns-in_default-answer-clause-answers
returns-in_default-answer-clause-answers g c =
    unanswered c.args.policy.now g.D.Desk.asked g.C.Clock.tells c.args.request.now c.args.close _ _ _ _ _ _ (g.W.Sink.failed c.leave_unanswered.new.writer) c.now-moment.result c.in-Ok.outcome c.leave_unanswered.result
    c.now-moment.ensures c.in-Ok.ensures.ok c.leave_unanswered.ensures.done c.leave_unanswered.ensures.ends

pub returns-in_err-put_response-clause-answers : goal.returns-in_err-put_response-clause-answers
returns-in_err-put_response-clause-answers g c =
    let p = err_from_is_err_and c.from_residual.result c.from_residual.ensures.1 in
    rw (p.1, p.2) (unwritten c.args.policy.now g.D.Desk.asked g.C.Clock.tells c.args.request.now c.args.close _ _ _ _ _ _ (g.W.Sink.failed c.put_response.new.writer) c.now-moment.result c.in-Ok.outcome _
    c.now-moment.ensures c.in-Ok.ensures.ok c.in-Ok-answer.ensures c.in_err-put_response.ensures.failed c.in_err-put_response.ensures.err)

pub returns-clause-answers : goal.returns-clause-answers
returns-clause-answers g c =
    answered c.args.policy.now g.D.Desk.asked g.C.Clock.tells c.args.request.now c.args.close _ _ _ _ _ _ (g.W.Sink.failed c.put_response.new.writer) c.now-moment.result c.in-Ok.outcome _
    c.now-moment.ensures c.in-Ok.ensures.ok c.in-Ok-answer.ensures c.in_ok-put_response.ensures.ok
