-- A shared book that is closed
use Rattle.std.specs.Prelude.{◌≡◌, ◌≢◌, ℕ, List, map, IsPermutation}
use Rattle.std.specs.List.Sorted.{IsNonDecreasingBy}
use Rattle.eu_base.specs.declared.faults.Fault.{Fault}
use Rattle.eu_base.specs.declared.faults.Fault.TheVariants.{OutOfMemory, PassMissing}
use Rattle.eu_book.specs.declared.journal.Logged.{Logged}
use Rattle.eu_book.specs.Account.{Account}
use Rattle.eu_book.specs.Peers.{state_of}
use Rattle.eu_model.specs.declared.tallies.Tally.{Tally}
use Rattle.eu_model.specs.State.{server_of_state}
use Rattle.eu_settle.specs.declared.closed.Closed.{Closed}
use Rattle.eu_settle.specs.declared.closed.PassLog.{PassLog}
use Rattle.eu_shared.specs.Passes.{PassAccount, Holding, done_for}

-- what a closed book says of the book
abbrev pub account_of : Closed → Account
account_of c = record {
  base = server_of_state c.base;
  first = c.first;
  entries = c.entries.items;
  state = server_of_state c.end;
  totals = c.totals;
}

-- a number with its log
abbrev pub log_of : PassAccount → ℕ × List Logged
log_of p = (p.number, p.log)

abbrev pub logged_by : PassLog → ℕ × List Logged
logged_by l = (l.pass, l.log.items)

-- the closed book is the one that was held, with base and end as plain data, its totals are what was done for the passes, and its logs are those of the passes, by
-- their numbers
pub record IsClosed (h : Holding) (ps : List PassAccount) (c : Closed) : Type 0 where
  pub whole : account_of c ≡ h.book
  pub base : c.base ≡ state_of h.book.base
  pub end : c.end ≡ state_of h.book.state
  pub sums : c.totals ≡ done_for ps
  pub logs : IsPermutation (map log_of ps) (map logged_by c.logs.items)
  pub ascending : IsNonDecreasingBy (λ (l : PassLog). l.pass) c.logs.items

-- a pass is missing exactly where what was done for those that are there isn't what was done in all; else memory was wanted
abbrev pub IsReason : Fault → Tally → Tally → Type 0
IsReason PassMissing sums totals = sums ≢ totals
IsReason OutOfMemory sums totals = sums ≡ totals
IsReason _ sums totals = ⊥

-- a book that isn't closed is handed back with the passes, as they were
pub record IsUnclosed (h : Holding) (ps : List PassAccount) (fault : Fault) (sums totals : Tally) (pass_count : ℕ) (passes : List PassAccount) (held : Holding) : Type 0 where
  pub reason : IsReason fault sums totals
  pub sums_are : sums ≡ done_for ps
  pub totals_are : totals ≡ h.book.totals
  pub made_is : pass_count ≡ h.pass_count
  pub passes_are : passes ≡ ps
  pub held_is : held ≡ h
