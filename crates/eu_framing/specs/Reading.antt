-- Where a reader and its buffer stand between two steps. Only the contracts of private functions speak of this.
use Rattle.std.specs.Prelude.{◌≡◌, ◌⊎◌, ℕ, Bool, true, List, ◌++◌, Option, Some, None, ⊤}
use Rattle.std.specs.Io.KnownBytes.{Keeps}
use Rattle.eu_base.specs.declared.faults.Fault.{Fault}
use Rattle.eu_base.specs.declared.faults.Fault.TheVariants as faults
use Rattle.eu_framing.specs.Message.{IsEnd, pending}

-- From one place to the next nothing but reading was done: the buffer grew at its end, and no byte was lost.
pub record Grows (left : Option (List ℕ)) (failed : Bool) (buffer : List ℕ) (left' : Option (List ℕ)) (failed' : Bool) (buffer' : List ℕ) : Type 0 where
  pub kept : Keeps (pending buffer left) (pending buffer' left')
  pub sound : failed' ≡ failed
  pub more : List ℕ
  pub grown : buffer' ≡ buffer ++ more

-- these bytes are the ones left, where those are known
abbrev pub Tells : Option (List ℕ) → List ℕ → Type 0
Tells None bytes = ⊤
Tells (Some all) bytes = bytes ≡ all

-- P of the buffer and the bytes that come behind it
abbrev pub Comes : Option (List ℕ) → List ℕ → (List ℕ → Type 0) → Type 0
Comes left buffer P = (coming : List ℕ) × Tells left coming × P (buffer ++ coming)

-- A read failed: the buffer grew at its end, no byte was lost, and P of what it holds.
pub record Halts (left : Option (List ℕ)) (buffer : List ℕ) (left' : Option (List ℕ)) (buffer' : List ℕ) (P : List ℕ → Type 0) : Type 0 where
  pub kept : Keeps (pending buffer left) (pending buffer' left')
  pub more : List ℕ
  pub grown : buffer' ≡ buffer ++ more
  pub cut : P buffer'

-- the fault comes from outside: no memory was left, or the reader failed
abbrev pub Fails : Bool → Option (List ℕ) → List ℕ → Option (List ℕ) → List ℕ → Fault → (List ℕ → Type 0) → Type 0
Fails failed left buffer left' buffer' fault P = (fault ≡ faults.OutOfMemory) ⊎ ((fault ≡ faults.Read) × (failed ≡ true) × Halts left buffer left' buffer' P)

-- were these all bytes, they would end before a request, or have one of these faults
abbrev pub IsCutBy : (List ℕ → Fault → Type 0) → List ℕ → Type 0
IsCutBy P bytes = IsEnd bytes ⊎ ((fault : Fault) × P bytes fault)

-- a fault comes from outside, or it is that of the buffer and the bytes that come behind it
abbrev pub Blames : Bool → Option (List ℕ) → List ℕ → Option (List ℕ) → List ℕ → Fault → (List ℕ → Fault → Type 0) → Type 0
Blames failed left buffer left' buffer' fault P = Fails failed left buffer left' buffer' fault (IsCutBy P) ⊎ Comes left buffer (λ bytes. P bytes fault)

-- the buffer has what it had, and more behind it
pub record Longer (buffer buffer' : List ℕ) : Type 0 where
  pub more : List ℕ
  pub grown : buffer' ≡ buffer ++ more
