-- What a script leaves of its journal, of the run whose account a desk keeps
use Rattle.std.proofs.Common.{◌≡◌, ℕ, Bool, List, [], Option, Some, None, Result, Ok, Err, IfErr, refl, ap, inl, inr}
use Rattle.eu_base.specs.declared.settings.Config.{Config}
use Rattle.eu_book.specs.Account.{Account}
use Rattle.eu_book.specs.Peers.{state_of}
use Rattle.eu_journal_text.specs.Text.{journal_text}
use Rattle.eu_lines.specs.declared.faults.ScriptFault.{ScriptFault}
use Rattle.eu_lines.specs.declared.faults.ScriptFault.TheVariants.{BadLine, Read, Write, OutOfMemory}
use Rattle.eu_lines.specs.Script.{Streams}
use Rattle.eu_model.specs.declared.commands.Entry.{Entry}
use Rattle.eu_model.specs.declared.states.State.{State}
use Rattle.eu_script.specs.declared.desk.ScriptDesk.{ScriptDesk}
use Rattle.eu_script.specs.ScriptDesk.{HoldsRun, Leaves, Writes, text_of}
use Rattle.eu_script.specs.Journal.{IsTextOf, JournalRuns}
use Rattle.eu_script.specs.Script.{Ran}
use Rattle.eu_script.proofs.Scripts.{without_memory}

-- what holds in each case holds also beside a fault
pub beside : {A E P : Type 0} (result : Result A E) (Q : E → Type 0) → P → IfErr result (λ fault. Q fault → P)
beside (Ok x) Q p = tt
beside (Err fault) Q p = λ _. p

-- the text of the journal of the book that there is
pub same_text : (book : Option Account) (a : Account) (base : State) (entries : List Entry) (end : State) → book ≡ Some a → base ≡ state_of a.base → entries ≡ a.entries → end ≡ state_of a.state
    → journal_text base entries end ≡ text_of book
same_text book a base entries end is from by to = rw (is, from, by, to) refl

-- the text of an account's journal is that of the run whose account it is
texts : (book : Option Account) (end : Option Ran) → HoldsRun book end → IsTextOf end (text_of book)
texts None None holds = refl
texts None (Some r) holds = absurd holds
texts (Some a) None holds = absurd holds
texts (Some a) (Some r) holds = (a.base, a.entries, holds.journal, ap (λ s. journal_text (state_of a.base) a.entries (state_of s)) holds.state)

module _ {C : Type 0} (config : Config) (asks : C → ℕ → ℕ × C) (x x' : C) (streams : Streams) (out : List ℕ) (failed : Bool) where
  -- a script that ended by a fault leaves nothing
  pub stopped : (f : ScriptFault) → Leaves config asks x x' streams (Err f) out
      → JournalRuns config asks x x' streams out failed (Err f) []
  stopped Write p = inl (p, refl)
  stopped (BadLine n) p = (p, refl)
  stopped Read p = (p, refl)
  stopped OutOfMemory p = (p, refl)

  -- what a desk leaves of its journal
  pub left_text : (d : ScriptDesk) (result : Result (Unit {0}) ScriptFault) (text : List ℕ) → Leaves config asks x x' streams (Ok d) out
      → Writes (text_of d.book) failed result text → JournalRuns config asks x x' streams out failed result text
  left_text d (Ok u) text leaves is = rw is (leaves.0, leaves.1, texts d.book leaves.0 leaves.2)
  left_text d (Err Write) text leaves is = inr (is.0, _, (leaves.0, leaves.1, texts d.book leaves.0 leaves.2), is.1, is.2)
  left_text d (Err OutOfMemory) text leaves is = (without_memory config asks x x' streams out leaves.0 leaves.1, is)
  left_text d (Err (BadLine n)) text leaves is = absurd is
  left_text d (Err Read) text leaves is = absurd is
