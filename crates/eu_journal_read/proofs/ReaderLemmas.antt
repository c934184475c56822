-- Lines that a reader takes or refuses
use Rattle.std.proofs.Common.{◌≡◌, ◌⊎◌, ℕ, List, Result, Ok, Err, IfOk, refl, ap, subst, sym, ◌∙◌, inl, inr}
use Rattle.std.specs.Str.{IsUtf8}
use Rattle.eu_journal.specs.declared.lines.JournalLine.{JournalLine}
use Rattle.eu_journal_text.specs.Line.{line_in}
use Rattle.eu_journal_values.specs.Answered.{Gives}
use Rattle.eu_journal_values.specs.declared.faults.LineFault.{LineFault}
use Rattle.eu_journal_values.specs.declared.faults.LineFault.TheVariants.{NotALine, OutOfMemory}
use Rattle.eu_journal_read.specs.Reader.{Follows, IsFit}
use Rattle.eu_journal_read.specs.Said.{IsReadAs}
use Rattle.eu_journal_read.specs.Stages.{take_line}
use Rattle.eu_journal_read.specs.declared.stages.Stage.{Stage}
use Rattle.eu_journal_read.proofs.ReadLemmas.{read_once}

-- ---- answers, whatever is defined

abbrev failed : {A : Type 0} → LineFault → Result A LineFault
failed f = Err f

pub same_fault : {A : Type 0} (r : Result A LineFault) (f g : LineFault) → r ≡ Err f → r ≡ Err g → f ≡ g
same_fault {A} r f g one other = let same : failed {A = A} f ≡ failed {A = A} g = sym one ∙ other in cc

never : {A : Type 0} (r : Result A LineFault) (f : LineFault) (x : A) → r ≡ Err f → r ≡ Ok x → ⊥
never {A} r f x one other = let same : failed {A = A} f ≡ Ok x = sym one ∙ other in cc

none_given : {A : Type 0} (r defined : Result A LineFault) → Gives r defined → r ≡ Err NotALine → (x : A) → defined ≡ Ok x → ⊥
none_given (Ok y) defined gives is x so = never (Ok y) NotALine y is refl
none_given (Err f) defined (inl memory) is x so = cc
none_given (Err f) defined (inr none) is x so = never defined f x none so

refused_so : {A : Type 0} (r : Result A LineFault) (f : LineFault) (x : A) → (f ≡ OutOfMemory) ⊎ (r ≡ Err f) → f ≡ NotALine → r ≡ Ok x → ⊥
refused_so r f x (inl memory) bad so = cc
refused_so r f x (inr none) bad so = never r f x none so

-- ---- texts of lines

pub read_as : (r : Result JournalLine LineFault) (text found : List ℕ) → found ≡ text → IsUtf8 text → Gives r (line_in found) → IfOk r (IsReadAs text)
unfolding IsReadAs
read_as (Ok l) text found same utf gives = (utf, ap line_in (sym same) ∙ gives)
read_as (Err f) text found same utf gives = tt

-- what is found to be no line is none
pub unread : (r : Result JournalLine LineFault) (text found : List ℕ) → found ≡ text → Gives r (line_in found) → r ≡ Err NotALine → (l : JournalLine) → IsReadAs text l → ⊥
unfolding IsReadAs
unread r text found same gives is l reads = none_given r (line_in found) gives is l (ap line_in same ∙ reads.1)

pub no_text : (text : List ℕ) → (IsUtf8 text → ⊥) → (l : JournalLine) → IsReadAs text l → ⊥
unfolding IsReadAs
no_text text not l reads = not reads.0

-- a line that can't follow is refused
pub refused_line : (prefix text : List ℕ) (s : Stage) (l : JournalLine) (f : LineFault) → IsReadAs text l → (f ≡ OutOfMemory) ⊎ (take_line s l ≡ Err f) → f ≡ NotALine → (t : Stage) → Follows prefix s text t → ⊥
refused_line prefix text s l f is why bad t follows =
    refused_so (take_line s l) f t why bad (ap (take_line s) (read_once text l follows.0 is follows.1) ∙ follows.2)

-- nor may one that isn't fit
pub unfit_line : (prefix text : List ℕ) (s : Stage) (l : JournalLine) → IsReadAs text l → (IsFit prefix l → ⊥) → (t : Stage) → Follows prefix s text t → ⊥
unfit_line prefix text s l is not t follows = not (subst (IsFit prefix) (read_once text follows.0 l follows.1 is) follows.3)
