-- What a journal that was read to the end of its text says
use Rattle.std.proofs.Common.{◌≡◌, ◌⊎◌, ℕ, Bool, true, List, Option, Some, Result, Ok, Err, IfOk, IfErr, inl, inr}
use Rattle.std.specs.Io.KnownBytes.{Consumes, IsAtEnd}
use Rattle.eu_model.specs.declared.commands.Entry.{Entry}
use Rattle.eu_model.specs.declared.states.State.{State}
use Rattle.eu_journal_read.specs.Drafts.{Draft, state_of}
use Rattle.eu_journal_read.specs.Front.{Front}
use Rattle.eu_journal_read.specs.Reader.{CameTo, EndsBefore, EndsIn, IsUnsealed}
use Rattle.eu_journal_read.specs.Said.{SaysJournal}
use Rattle.eu_journal_read.specs.declared.faults.JournalFault.{JournalFault}
use Rattle.eu_journal_read.specs.declared.faults.JournalFault.TheVariants as fault
use Rattle.eu_journal_read.specs.declared.journal.Recorded.{Recorded}
use Rattle.eu_journal_read.specs.declared.stages.Stage.{Stage}
use Rattle.eu_journal_read.specs.declared.stages.Stage.TheVariants as stage
use Rattle.eu_journal_read.proofs.OutcomeLemmas.{end_told, is_sealed, says_journal}

pub unsealed : (s : Stage) → ((f : Front) (d : Draft) → s ≡ stage.Sealed f d → ⊥) → IsUnsealed s
unfolding IsUnsealed
unsealed s not = not

pub ends_in : (s : Stage) (f : Front) (d : Draft) (base : State) (entries : List Entry) (end : State) → s ≡ stage.Sealed f d → base ≡ state_of f.base → entries ≡ f.entries → end ≡ state_of d → EndsIn s base entries end
unfolding EndsIn
ends_in s f d base entries end is same_base same_entries same_end = (f, d, is, same_base, same_entries, same_end)

-- the last stage is that of a whole journal, or there is none for one of two faults
abbrev EndsSo : Stage → Result Recorded JournalFault → Type 0
EndsSo s r = IfErr r (λ f. (f ≡ fault.OutOfMemory) ⊎ ((f ≡ fault.EndsEarly) × IsUnsealed s))

fault_so : (s : Stage) (r : Result Recorded JournalFault) (f : JournalFault) → EndsSo s r → r ≡ Err f → (f ≡ fault.OutOfMemory) ⊎ ((f ≡ fault.EndsEarly) × IsUnsealed s)
fault_so s (Ok j) f so is = cc
fault_so s (Err e) f so is = let same : e ≡ f = cc in rw (← same) so

pub no_line : (s : Stage) (r : Result Recorded JournalFault) (n : ℕ) → EndsSo s r → r ≡ Err (fault.BadLine n) → ⊥
no_line s r n so is =
    elim (fault_so s r (fault.BadLine n) so is) [
      | inl memory ↦ cc
      | inr early ↦ let never = early.0 in cc
    ]

pub no_read : (s : Stage) (r : Result Recorded JournalFault) → EndsSo s r → r ≡ Err fault.Read → ⊥
no_read s r so is =
    elim (fault_so s r fault.Read so is) [
      | inl memory ↦ cc
      | inr early ↦ let never = early.0 in cc
    ]

module _ (old left : Option (List ℕ)) (failed : Bool) (read : List ℕ) (s : Stage) (eats : Consumes old left read) (came : CameTo left failed read (Ok s)) where
  pub ends_before : (r : Result Recorded JournalFault) → EndsSo s r → r ≡ Err fault.EndsEarly → EndsBefore old left
  ends_before r so is =
      elim (fault_so s r fault.EndsEarly so is) [
        | inl memory ↦ cc
        | inr early ↦ end_told old left failed read s eats came early.1
      ]

  pub whole : (r : Result Recorded JournalFault) → IfOk r (λ j. EndsIn s j.base j.entries.items j.end)
      → IfOk r (λ j. (text : List ℕ) × Consumes old left text × IsAtEnd left × SaysJournal text j.base j.entries.items j.end)
  whole (Ok j) ends = let says = says_journal left failed read s j.base j.entries.items j.end came ends in (read, eats, says.0, says.1)
  whole (Err f) ends = tt

  pub no_refusal : (r : Result Recorded JournalFault) → EndsSo s r
      → IfErr r (λ f. (text : List ℕ) (base : State) (entries : List Entry) (end : State) → old ≡ Some text → SaysJournal text base entries end → (f ≡ fault.OutOfMemory) ⊎ ((f ≡ fault.Read) × (failed ≡ true)))
  no_refusal (Ok j) so = tt
  no_refusal (Err f) (inl memory) = λ text base entries end is says. inl memory
  no_refusal (Err f) (inr early) = λ text base entries end is says. absurd (is_sealed text base entries end says left failed read s (rw is at eats) came early.1)
