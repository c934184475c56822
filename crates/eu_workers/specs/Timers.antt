-- Workers that ask for one command
use Rattle.std.specs.Prelude.{◌≡◌, ℕ, ◌+◌, ◌%◌, ◌==◌, Bool, false, List, [], ◌∷◌, length}
use Rattle.std.specs.List.{AllByRecursion}
use Rattle.eu_book.specs.declared.journal.Logged.{Logged}
use Rattle.eu_book.specs.Account.{Account, Applies, IsLawful, entry}
use Rattle.eu_clock.specs.Front.{Asks}
use Rattle.eu_gate.specs.declared.timers.Timer.{Timer}
use Rattle.eu_gate.specs.declared.timers.Timer.TheVariants.{Evictor, Bucket, Threshold}
use Rattle.eu_model.specs.declared.commands.Command.{Command}
use Rattle.eu_model.specs.declared.commands.Command.TheVariants.{Evict, EndMinute, Update}
use Rattle.eu_shared.specs.Passes.{PassAccount}
use Rattle.eu_workers.specs.declared.ended.Ended.{Ended}
use Rattle.eu_workers.specs.Returned.{TakesTurns}

-- what each timer's worker asks for
abbrev pub command_of : Timer → Command
command_of Evictor = Evict
command_of Bucket = EndMinute
command_of Threshold = Update

-- the journal is to begin anew after so many turns of a timer's worker: after each 60th of the bucket's
abbrev pub is_due_after : Timer → ℕ → Bool
is_due_after Bucket turns = turns % 60 == 0
is_due_after Evictor turns = false
is_due_after Threshold turns = false

-- In each turn a pass asked for the command once: it was answered in all turns but for the refused ones, and for nothing else. So its steps grow by the turns
-- less the refused ones
pub record AsksOnly (command : Command) (limit : ℕ) (p q : PassAccount) (e : Ended) : Type 0 where
  pub turns : TakesTurns limit p q e
  pub only : AllByRecursion (λ (l : Logged). l.command ≡ command) turns.pass.added
  pub many : length turns.pass.added + e.refused ≡ e.turns
  pub steps : q.tally.steps + e.refused ≡ p.tally.steps + e.turns

-- some lawful book answers the pass of that number so, by the chooser's next words, and leaves the chooser so
abbrev pub Answers : {S : Type 0} → Asks S → S → ℕ → Logged → S → Type 0
Answers chooser x pass l x' = (before : Account) × (after : Account) × IsLawful before × IsLawful after × Applies chooser before x (entry pass l.number l.command l.moment l.reply) after x'

-- one after another, each by the words that follow those of the one before
abbrev pub AnswersAll : {S : Type 0} → Asks S → S → ℕ → List Logged → S → Type 0
AnswersAll chooser x pass [] x' = x' ≡ x
AnswersAll {S} chooser x pass (l ∷ ls) x' = (y : S) × Answers chooser x pass l y × AnswersAll chooser y pass ls x'

-- A pass asked for the command alone, and what it was answered was drawn by the words of the chooser that it was lent; a turn that was refused draws none
pub record AsksBy {S : Type 0} (chooser : Asks S) (x : S) (command : Command) (limit : ℕ) (p q : PassAccount) (e : Ended) (x' : S) : Type 0 where
  pub asks : AsksOnly command limit p q e
  pub drawn : AnswersAll chooser x p.number asks.turns.pass.added x'
