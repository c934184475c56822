use Rattle.eu_session.proofs.BookLemmas.{book_turns, book_session}
use Rattle.eu_session.proofs.book.sessions_are_runs.Goals as goal

pub returns : goal.returns
returns g c = record { turns = λ policy. book_turns policy g.C.Clock.tells; session = λ policy. book_session policy g.C.Clock.tells }
