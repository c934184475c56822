-- A pass and the shared book, as they are stored
use Rattle.std.specs.Prelude.{ℕ, List, refl}
use Rattle.std.specs.Coded.{Coded, code_by, coded×, coded_list, coded_ℕ}
use Rattle.eu_book.specs.declared.journal.Logged.{Logged}
use Rattle.eu_book.specs.contracts.journal.Logged as logged
use Rattle.eu_book.specs.Account.{Account}
use Rattle.eu_book.specs.AccountCode.{coded_account}
use Rattle.eu_model.specs.declared.tallies.Tally.{Tally}
use Rattle.eu_model.specs.contracts.tallies.Tally as tally
use Rattle.eu_shared.specs.Passes.{PassAccount, Holding}

abbrev pub coded_pass : Coded PassAccount
coded_pass =
    code_by (ℕ × (List Logged × (Tally × ℕ)))
    (coded× coded_ℕ (coded× (coded_list logged.the_row.coded) (coded× tally.the_row.coded coded_ℕ)))
    (λ p. (p.number, (p.log, (p.tally, p.journal_first))))
    (λ q. record { number = q.0; log = q.1.0; tally = q.1.1.0; journal_first = q.1.1.1 })
    (λ _. refl)

abbrev pub coded_holding : Coded Holding
coded_holding = code_by (Account × ℕ) (coded× coded_account coded_ℕ) (λ h. (h.book, h.pass_count)) (λ q. record { book = q.0; pass_count = q.1 }) (λ _. refl)
