-- One step after another, up to the first fault; and how what a call gives is told from what is said
use Rattle.std.specs.Prelude.{◌≡◌, ◌⊎◌, Result, Ok, Err}
use Rattle.eu_base.specs.declared.faults.Fault.{Fault}
use Rattle.eu_base.specs.declared.faults.Fault.TheVariants.{OutOfMemory}

infixl 10 ◌>>=◌
abbrev pub ◌>>=◌ : {A B E : Type 0} → Result A E → (A → Result B E) → Result B E
(Ok x) >>= f = f x
(Err e) >>= f = Err e

-- what is given, with its value seen by the view
abbrev pub result_map : {X Y E : Type 0} → (X → Y) → Result X E → Result Y E
result_map view (Ok x) = Ok (view x)
result_map view (Err e) = Err e

-- what is given is what is said, but for one fault: where that is given, nothing is known
abbrev pub GivesBut : {X E : Type 0} → E → Result X E → Result X E → Type 0
GivesBut memory (Ok x) said = said ≡ Ok x
GivesBut memory (Err e) said = (e ≡ memory) ⊎ (said ≡ Err e)

-- what is given is what is said, unless memory ran out
abbrev pub Gives : {X : Type 0} → Result X Fault → Result X Fault → Type 0
Gives = GivesBut OutOfMemory
