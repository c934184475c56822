-- What a pass of a shared book does that a session asks. Others may ask the book between two asks of the session
use Rattle.std.specs.Prelude.{◌≡◌, ℕ, ◌≤◌, ◌++◌, ◌∷◌, [], Result, Ok, Err}
use Rattle.eu_base.specs.declared.faults.Fault.{Fault}
use Rattle.eu_base.specs.declared.faults.Fault.TheVariants.{OutOfMemory}
use Rattle.eu_book.specs.Account.{entry, logged}
use Rattle.eu_clock.specs.declared.choosers.FirstChooser.{FirstChooser}
use Rattle.eu_model.specs.declared.asks.Answer.{Answer}
use Rattle.eu_model.specs.declared.asks.Answer.TheVariants.{Did, Saw}
use Rattle.eu_model.specs.declared.asks.Ask.{Ask}
use Rattle.eu_model.specs.declared.asks.Ask.TheVariants.{Do, See}
use Rattle.eu_model.specs.declared.commands.Command.{Command}
use Rattle.eu_model.specs.declared.commands.Reply.{Reply}
use Rattle.eu_model.specs.Delta.{delta, plus}
use Rattle.eu_shared.specs.Passes.{PassAccount, IsAnsweredBySome, IsRefusedBySome, IsShownBySome}
use Rattle.eu_book.specs.Desk.{first_asks}

-- a command was answered, as some lawful book answers it at that number: the pass logs just this, counts what it did, and has seen
-- where that book's journal begins then. The number is at least that of the steps that were made for the pass
pub record Logs (p : PassAccount) (c : Command) (t : ℕ) (reply : Reply) (q : PassAccount) : Type 0 where
  pub number : ℕ
  pub before : FirstChooser
  pub after : FirstChooser
  pub answer : IsAnsweredBySome first_asks before p (entry p.number number c t reply) after q
  pub after_own : p.tally.steps ≤ number
  pub same : q.number ≡ p.number
  pub log : q.log ≡ p.log ++ logged c t reply number ∷ []
  pub tally : q.tally ≡ plus p.tally (delta c reply)
  pub journal_first : p.journal_first ≤ q.journal_first

-- the pass has seen where the journal begins, and is as it was else
pub record Looks (p q : PassAccount) : Type 0 where
  pub same : q.number ≡ p.number
  pub log : q.log ≡ p.log
  pub tally : q.tally ≡ p.tally
  pub journal_first : p.journal_first ≤ q.journal_first

-- a command is logged, or is refused as some lawful book refuses it; a query is answered by what some lawful book shows
abbrev pub PassAsks : PassAccount → Ask → ℕ → Result Answer Fault → PassAccount → Type 0
PassAsks p (Do c) t (Ok (Did reply)) q = Logs p c t reply q
PassAsks p (Do c) t (Ok (Saw v)) q = ⊥
PassAsks p (Do c) t (Err f) q = IsRefusedBySome c t f × (q ≡ p)
PassAsks p (See look) t (Ok (Did reply)) q = ⊥
PassAsks p (See look) t (Ok (Saw v)) q = IsShownBySome p look t v q × Looks p q
PassAsks p (See look) t (Err f) q = (f ≡ OutOfMemory) × (q ≡ p)
