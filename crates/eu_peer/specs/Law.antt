-- A turn that finds a batch in flight takes it for lost
use Rattle.std.specs.Prelude.{◌≡◌, ℕ, List, Option, Result, Ok, Err}
use Rattle.eu_base.specs.declared.faults.Fault.{Fault}
use Rattle.eu_base.specs.declared.faults.Fault.TheVariants.{Busy}
use Rattle.eu_base.specs.declared.tasks.Task.{Task}
use Rattle.eu_model.specs.declared.asks.Answer.{Answer}
use Rattle.eu_model.specs.declared.asks.Ask.{Ask}
use Rattle.eu_model.specs.declared.asks.Ask.TheVariants.{Do}
use Rattle.eu_json.specs.declared.batch_write.ItemAnswer.{ItemAnswer}
use Rattle.eu_model.specs.declared.commands.Command.TheVariants.{Drain}
use Rattle.eu_peer.specs.declared.turn.Turn.{Turn}
use Rattle.eu_peer.specs.declared.turn.Turn.TheVariants as turn
use Rattle.eu_peer.specs.Turns.{Parties, Taken, Turns}

module _ {D P C : Type 0} (asked : D → Ask → ℕ → Result Answer Fault → D → Type 0) (submits : P → List Task → Option (List ItemAnswer) → P → Type 0) (tells : C → ℕ → C → Type 0) where
  -- the drain was refused by Busy, and the batch in flight was taken for lost, or that was refused
  abbrev pub TakesForLost : ℕ → Parties D P C → Result Unit Fault → Parties D P C → Type 0
  TakesForLost number old result new =
      (moment : ℕ) × tells old.clock moment new.clock × Taken asked moment submits number old.desk old.peer result new.desk new.peer

  -- and the turn says so: `Waiting`, or that refusal
  abbrev pub Waits : ℕ → Parties D P C → Result Turn Fault → Parties D P C → Type 0
  Waits number old (Ok turn.Waiting) new = TakesForLost number old (Ok tt) new
  Waits number old (Err f) new = TakesForLost number old (Err f) new
  Waits number old _ new = ⊥

  -- so does each turn for a peer to whom a batch stayed in flight: one of which the desk refuses every drain by Busy
  abbrev pub BusyTurnsWait : Type 0
  BusyTurnsWait =
      (number : ℕ) (old new : Parties D P C) (result : Result Turn Fault)
      → ((t : ℕ) (r : Result Answer Fault) (mid : D) → asked old.desk (Do (Drain number)) t r mid → r ≡ Err Busy)
      → Turns asked submits tells number old result new → Waits number old result new
