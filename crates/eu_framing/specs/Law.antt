-- The definition of the next request gives one answer, but where a head has two faults.
use Rattle.std.specs.Prelude.{◌≡◌, ℕ, ◌⊎◌, List}
use Rattle.eu_base.specs.declared.faults.Fault.{Fault}
use Rattle.eu_framing.specs.Message.{Message, IsEnd, IsHeadFault, ReadsMessage, IsFault, IsCut}

-- bytes begin with one request at most, and its rest is one
abbrev pub OneMessage : Type 0
OneMessage =
    (bytes : List ℕ) (m n : Message) (rest rest' : List ℕ) → ReadsMessage bytes m rest → ReadsMessage bytes n rest'
    → (m.head ≡ n.head) × (m.body ≡ n.body) × (rest ≡ rest')

-- bytes that begin with a request have no fault
abbrev pub WholeIsFaultless : Type 0
WholeIsFaultless = (bytes : List ℕ) (m : Message) (rest : List ℕ) (fault : Fault) → ReadsMessage bytes m rest → ¬ (IsFault bytes fault)

-- bytes that end before a request begin with none, and have no fault
abbrev pub EndIsAlone : Type 0
EndIsAlone =
    (bytes : List ℕ) → IsEnd bytes
    → ((m : Message) (rest : List ℕ) → ¬ (ReadsMessage bytes m rest)) × ((fault : Fault) → ¬ (IsFault bytes fault))

-- bytes that are cut begin with no request
abbrev pub CutHasNone : Type 0
CutHasNone = (bytes : List ℕ) → IsCut bytes → (m : Message) (rest : List ℕ) → ¬ (ReadsMessage bytes m rest)

-- bytes have one fault at most, but that a head may be too long and also broken or cut
abbrev pub OneFault : Type 0
OneFault = (bytes : List ℕ) (f g : Fault) → IsFault bytes f → IsFault bytes g → (f ≡ g) ⊎ (IsHeadFault bytes f × IsHeadFault bytes g)
