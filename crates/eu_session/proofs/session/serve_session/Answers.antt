use Rattle.std.proofs.Common.{◌∙◌, Ok, Err, refl}
use Rattle.std.proofs.lemmas.Result.{err_from_is_err_and}
use Rattle.eu_session.specs.declared.talk.Turned.TheVariants.{Ended}
use Rattle.eu_session.proofs.TalkLemmas.{parts_join, parts_end}
use Rattle.eu_session.proofs.session.serve_session.Goals as goal

pub returns-in_err-take_turn-clause-session : goal.returns-in_err-take_turn-clause-session
returns-in_err-take_turn-clause-session g c =
    let p = err_from_is_err_and c.from_residual.result c.from_residual.ensures.1 in
    rw (p.1, p.2) (parts_end c.args.policy.now g.D.Desk.asked g.C.Clock.tells _ _ _ _ _ _ (g.W.Sink.contents c.turns.writer) c.take_turn.new.talk.inbox (Err c.in_err-take_turn.field-0.0) _
    c.turns.invariant.goes_on c.in_err-take_turn.ensures.turn refl)

pub returns-in-Ended-clause-session : goal.returns-in-Ended-clause-session
returns-in-Ended-clause-session g c =
    parts_end c.args.policy.now g.D.Desk.asked g.C.Clock.tells _ _ _ _ _ _ (g.W.Sink.contents c.turns.writer) c.take_turn.new.talk.inbox (Ok (Ended c.in-Ended.requests)) _
    c.turns.invariant.goes_on (rw c.in-Ended.is at c.in_ok-take_turn.ensures.turn) refl

pub turns-preserved : goal.turns-preserved
turns-preserved g c =
    let turn = rw c.in-GoesOn.is at c.in_ok-take_turn.ensures.turn in
    record {
      goes_on = parts_join c.args.policy.now g.D.Desk.asked g.C.Clock.tells _ _ _ _ _ _ _ _ _ c.turns.invariant.goes_on turn.1;
      sound_reader = c.in_ok-take_turn.ensures.sound_reader ∙ c.turns.invariant.sound_reader;
      sound_writer = c.in_ok-take_turn.ensures.sound_writer ∙ c.turns.invariant.sound_writer;
      same_reader = c.take_turn.ensures.same_reader ∙ c.turns.invariant.same_reader;
      same_writer = c.take_turn.ensures.same_writer ∙ c.turns.invariant.same_writer;
    }
