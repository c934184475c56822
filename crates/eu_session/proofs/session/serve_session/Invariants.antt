use Rattle.std.proofs.Common.{◌≡◌, ◌-◌}
use Rattle.eu_framing.specs.Message.{pending}
use Rattle.eu_session.specs.Session.{Part, Step}
use Rattle.eu_session.proofs.session.serve_session.Given as goal

abbrev pub invariant-turns : goal.invariant-turns
invariant-turns g l = record {
  goes_on : Part (Step l.policy g.D.Desk.asked g.C.Clock.tells) 0 l.room.talk.served
      (record { left = g.R.Source.remaining l.initial.reader; desk = l.initial.desk; clock = l.initial.clock })
      (record { left = pending l.room.talk.inbox (g.R.Source.remaining l.reader); desk = l.desk; clock = l.clock })
      (g.W.Sink.contents l.initial.writer) (g.W.Sink.contents l.writer);
  sound_reader : g.R.Source.failed l.reader ≡ g.R.Source.failed l.initial.reader;
  sound_writer : g.W.Sink.failed l.writer ≡ g.W.Sink.failed l.initial.writer;
  same_reader : g.R.Source.stream l.reader ≡ g.R.Source.stream l.initial.reader;
  same_writer : g.W.Sink.stream l.writer ≡ g.W.Sink.stream l.initial.writer;
}

abbrev pub decreases-turns : goal.decreases-turns
decreases-turns g l = 100 - l.room.talk.served
