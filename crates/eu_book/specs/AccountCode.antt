-- An account, as it is stored
use Rattle.std.specs.Prelude.{ℕ, List, refl}
use Rattle.std.specs.Coded.{Coded, code_by, coded×, coded_list, coded_ℕ}
use Rattle.eu_model.specs.declared.commands.Entry.{Entry}
use Rattle.eu_model.specs.declared.tallies.Tally.{Tally}
use Rattle.eu_model.specs.contracts.commands.Entry as entry
use Rattle.eu_model.specs.contracts.tallies.Tally as tally
use Rattle.eu_model.specs.Server.{PlainServer}
use Rattle.eu_model.specs.PlainCode.{coded_server}
use Rattle.eu_book.specs.Account.{Account}

abbrev pub coded_account : Coded Account
coded_account =
    code_by (PlainServer × (ℕ × (List Entry × (PlainServer × Tally))))
    (coded× coded_server (coded× coded_ℕ (coded× (coded_list entry.the_row.coded) (coded× coded_server tally.the_row.coded))))
    (λ a. (a.base, (a.first, (a.entries, (a.state, a.totals)))))
    (λ q. record { base = q.0; first = q.1.0; entries = q.1.1.0; state = q.1.1.1.0; totals = q.1.1.1.1 })
    (λ _. refl)
