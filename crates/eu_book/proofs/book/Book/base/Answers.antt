use Rattle.std.proofs.Common.{◌∙◌, ap, subst}
use Rattle.std.proofs.lemmas.Result.{IfOk-weaker}
use Rattle.eu_model.specs.State.{server_of_state}
use Rattle.eu_book.specs.Account.{Account, IsLawful}
use Rattle.eu_book.specs.Peers.{state_of}
use Rattle.eu_book.proofs.KeyedLemmas.{base_back}
use Rattle.eu_book.proofs.book.Book.base.Goals as goal

pub returns : goal.returns
returns c =
    let lawful = subst IsLawful c.self.view_is c.self.invariant.1.lawful in
    IfOk-weaker c.plain_base.result _ _
    (λ s is.
    let base = is ∙ ap (λ (a : Account). state_of a.base) c.self.view_is in
    (ap server_of_state base ∙ base_back c.args.self.now lawful, base))
    c.plain_base.ensures
