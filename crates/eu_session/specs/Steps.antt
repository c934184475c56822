-- What the parts of a turn do. Only the contracts of private functions speak of this.
use Rattle.std.specs.Prelude.{◌≡◌, ◌≢◌, ◌⊎◌, ℕ, Bool, true, false, List, take, Option, Result, Ok, Err}
use Rattle.std.specs.Io.KnownBytes.{Appends, Keeps}
use Rattle.eu_base.specs.declared.faults.Fault.{Fault}
use Rattle.eu_base.specs.declared.faults.Fault.TheVariants as faults
use Rattle.eu_framing.specs.declared.request.Request.{Request}
use Rattle.eu_model.specs.declared.asks.Answer.{Answer}
use Rattle.eu_model.specs.declared.asks.Ask.{Ask}
use Rattle.eu_http.specs.declared.exchange.Outcome.{Outcome}
use Rattle.eu_http.specs.declared.policy.Policy.{Policy}
use Rattle.eu_http.specs.Response.{response}
use Rattle.eu_session.specs.declared.faults.SessionFault.{SessionFault}
use Rattle.eu_session.specs.declared.faults.SessionFault.TheVariants.{Read, Write, OutOfMemory}
use Rattle.eu_session.specs.Session.{ComesOf, did_something, refusal}

-- the fault is one of the bytes
abbrev pub IsInside : Fault → Type 0
IsInside fault = (fault ≢ faults.OutOfMemory) × (fault ≢ faults.Read)

-- that there is no memory was written, or a front of that
abbrev pub TellsNoMemory : Option (List ℕ) → Option (List ℕ) → Type 0
TellsNoMemory before after = Appends before after (refusal faults.OutOfMemory)

abbrev pub LosesNoMemory : Option (List ℕ) → Option (List ℕ) → Type 0
LosesNoMemory before after = (len : ℕ) × Appends before after (take len (refusal faults.OutOfMemory))

-- so a session ends by this fault
abbrev pub EndsWithoutMemory : Option (List ℕ) → Option (List ℕ) → Bool → SessionFault → Type 0
EndsWithoutMemory before after failed Read = ⊥
EndsWithoutMemory before after failed Write = (failed ≡ true) × LosesNoMemory before after
EndsWithoutMemory before after failed OutOfMemory = TellsNoMemory before after

module _ {D C : Type 0} (policy : Policy) (asked : D → Ask → ℕ → Result Answer Fault → D → Type 0) (tells : C → ℕ → C → Type 0) where
  -- the clock told a moment, and what the request asks then was asked
  pub record Comes (request : Request) (desk : D) (clock : C) (desk' : D) (clock' : C) : Type 0 where
    pub moment : ℕ
    pub told : tells clock moment clock'
    pub outcome : Outcome
    pub comes : ComesOf policy asked desk request moment outcome desk'

  -- the clock told a moment, and nothing was asked
  abbrev pub Tells : D → C → D → C → Type 0
  Tells desk clock desk' clock' = (moment : ℕ) × tells clock moment clock' × (desk' ≡ desk)

  -- nothing was done: nothing was asked, or what was asked did nothing
  abbrev pub Idles : Request → D → C → D → C → Type 0
  Idles request desk clock desk' clock' =
      Tells desk clock desk' clock' ⊎ ((c : Comes request desk clock desk' clock') × (did_something c.outcome ≡ false))

  -- a request that was read is answered, by the result
  abbrev pub AnswersTo : Request → Bool → D → C → Option (List ℕ) → D → C → Option (List ℕ) → Bool → Result (Unit {0}) SessionFault → Type 0
  AnswersTo request close desk clock before desk' clock' after failed (Ok u) =
      (c : Comes request desk clock desk' clock') × Appends before after (response c.outcome close)
  AnswersTo request close desk clock before desk' clock' after failed (Err Read) = ⊥
  AnswersTo request close desk clock before desk' clock' after failed (Err Write) =
      (failed ≡ true)
      × (((c : Comes request desk clock desk' clock') × (len : ℕ) × Appends before after (take len (response c.outcome close)))
      ⊎ (Idles request desk clock desk' clock' × LosesNoMemory before after))
  AnswersTo request close desk clock before desk' clock' after failed (Err OutOfMemory) =
      (Idles request desk clock desk' clock' × TellsNoMemory before after)
      ⊎ (Keeps before after × ((c : Comes request desk clock desk' clock') × (did_something c.outcome ≡ true)))

-- a fault in place of a request is answered where it is one of the bytes, by the result
abbrev pub RefusesBy : Fault → Option (List ℕ) → Option (List ℕ) → Bool → Result (Unit {0}) SessionFault → Type 0
RefusesBy fault before after failed (Ok u) = IsInside fault × Appends before after (refusal fault)
RefusesBy fault before after failed (Err Read) = (fault ≡ faults.Read) × Keeps before after
RefusesBy fault before after failed (Err Write) =
    (failed ≡ true) × ((IsInside fault × ((len : ℕ) × Appends before after (take len (refusal fault)))) ⊎ LosesNoMemory before after)
RefusesBy fault before after failed (Err OutOfMemory) = TellsNoMemory before after
