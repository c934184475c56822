-- A pass that comes back from a worker
use Rattle.std.specs.Prelude.{◌≡◌, ℕ, ◌<◌, ◌≤◌, List, [], ◌∷◌, ◌++◌}
use Rattle.eu_book.specs.declared.journal.Logged.{Logged}
use Rattle.eu_model.specs.declared.tallies.Tally.{Tally}
use Rattle.eu_model.specs.Delta.{delta, nothing, plus}
use Rattle.eu_settle.specs.Settled.{from_first}
use Rattle.eu_shared.specs.Passes.{PassAccount}
use Rattle.eu_workers.specs.declared.ended.Ended.{Ended}
use Rattle.eu_workers.specs.Ended.{IsWithin}

-- what these did together
abbrev pub done_by : List Logged → Tally
done_by [] = nothing
done_by (l ∷ ls) = plus (delta l.command l.reply) (done_by ls)

-- a pass was asked: its log went on by some entries, and its tallies by what these did
pub record IsAsked (p q : PassAccount) : Type 0 where
  pub added : List Logged
  pub number : q.number ≡ p.number
  pub log : q.log ≡ p.log ++ added
  pub tally : q.tally ≡ plus p.tally (done_by added)
  pub journal_first : p.journal_first ≤ q.journal_first

-- a pass only looked: its number, its log and its tallies are as they were
pub record OnlyLooks (p q : PassAccount) : Type 0 where
  pub number : q.number ≡ p.number
  pub log : q.log ≡ p.log
  pub tally : q.tally ≡ p.tally
  pub journal_first : p.journal_first ≤ q.journal_first

-- what was done for a pass stays, and its log is trimmed by where it has seen the journal begin, which it may have seen once more
pub record Tidies (p q : PassAccount) : Type 0 where
  pub number : q.number ≡ p.number
  pub tally : q.tally ≡ p.tally
  pub journal_first : p.journal_first ≤ q.journal_first
  pub log : q.log ≡ from_first q.journal_first p.log

-- a turn: the pass was asked, and then tidied
abbrev pub HasTurn : PassAccount → PassAccount → Type 0
HasTurn p q = (mid : PassAccount) × IsAsked p mid × Tidies mid q

-- nothing in the log is numbered below the greatest number with which the pass has seen the journal begin
abbrev pub IsTrimmed : PassAccount → Type 0
IsTrimmed p = from_first p.journal_first p.log ≡ p.log

-- It is the pass that was handed in. Its log went on by some entries, and its tallies by what these did; but what is numbered below `first`, which is at most
-- the greatest number with which it has seen the journal begin, was trimmed from the log
pub record ComesBack (p q : PassAccount) : Type 0 where
  pub added : List Logged
  pub first : ℕ
  pub number : q.number ≡ p.number
  pub log : q.log ≡ from_first first (p.log ++ added)
  pub tally : q.tally ≡ plus p.tally (done_by added)
  pub begins : first ≤ q.journal_first

-- a worker had turns, and gives its pass back: as it was where there was none, else with a log that is trimmed
pub record TakesTurns (limit : ℕ) (p q : PassAccount) (e : Ended) : Type 0 where
  pub within : IsWithin limit e
  pub pass : ComesBack p q
  pub idle : e.turns ≡ 0 → q ≡ p
  pub trimmed : 0 < e.turns → IsTrimmed q
