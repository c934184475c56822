-- A closed book is the one that was held
use Rattle.std.proofs.Common.{◌≡◌, ap, ◌∙◌}
use Rattle.eu_book.specs.Account.{Account, IsLawful}
use Rattle.eu_book.specs.Peers.{state_of}
use Rattle.eu_model.specs.State.{server_of_state}
use Rattle.eu_settle.specs.declared.closed.Closed.{Closed}
use Rattle.eu_shared.specs.Closing.{account_of}
use Rattle.eu_book.proofs.KeyedLemmas.{base_back, state_back}

pub closed_is : (c : Closed) (a : Account) → IsLawful a → c.base ≡ state_of a.base → c.first ≡ a.first → c.entries.items ≡ a.entries → c.end ≡ state_of a.state → c.totals ≡ a.totals
    → account_of c ≡ a
closed_is c a lawful base first entries end totals =
    let before = ap server_of_state base ∙ base_back a lawful in
    let after = ap server_of_state end ∙ state_back a lawful in
    λ i. record { base = before i; first = first i; entries = entries i; state = after i; totals = totals i }
