use Rattle.eu_session.proofs.TalkLemmas.{parts_join, parts_end}
use Rattle.eu_session.proofs.talk.turns_are_sessions.Goals as goal

pub returns : goal.returns
returns g c = record { join = λ policy. parts_join policy g.D.Desk.asked g.C.Clock.tells; end = λ policy. parts_end policy g.D.Desk.asked g.C.Clock.tells }
