use Rattle.eu_session.proofs.TalkLemmas.{parts_carry, parts_join_over, parts_end_over}
use Rattle.eu_session.proofs.talk.turns_are_connections.Goals as goal

pub returns : goal.returns
returns g c = record {
  carry = λ policy. parts_carry policy g.D.Desk.asked g.C.Clock.tells;
  join = λ policy. parts_join_over policy g.D.Desk.asked g.C.Clock.tells;
  end = λ policy. parts_end_over policy g.D.Desk.asked g.C.Clock.tells;
}
