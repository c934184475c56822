use Rattle.std.proofs.Common.{sym, subst}
use Rattle.eu_book.specs.Account.{IsLawful}
use Rattle.eu_shared.proofs.AnswerLemmas.{is_answered, is_refused, is_refused_by}
use Rattle.eu_shared.proofs.pass.Pass.ask.Goals as goal

pub returns-in_default-clause-refused : goal.returns-in_default-clause-refused
returns-in_default-clause-refused g c =
    is_refused c.args.command c.args.moment _ _ (subst IsLawful (sym c.book.ensures.book) c.book.ensures.lawful) c.refusal_without_memory-fault.ensures.refused c.refusal_without_memory-fault.ensures.memory

pub returns-clause-answer : goal.returns-clause-answer
returns-clause-answer g c =
    let asked = c.ask_with-outcome in
    rw (← c.prepare.ensures.pass) (is_answered c.args.command c.args.moment g.C.Chooser.asks _ _ _ _ _ _ asked.result asked.ensures.before asked.ensures.after asked.ensures.applied asked.ensures.pass)

pub returns-clause-refused : goal.returns-clause-refused
returns-clause-refused g c =
    let asked = c.ask_with-outcome.ensures in
    is_refused_by c.args.command c.args.moment _ c.ask_with-outcome.result asked.before asked.refused asked.memory
