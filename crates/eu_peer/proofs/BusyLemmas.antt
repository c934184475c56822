-- A turn for a peer to whom a batch stayed in flight
use Rattle.std.proofs.Common.{◌≡◌, ℕ, List, Option, Result, Ok, Err, inl, inr}
use Rattle.eu_base.specs.declared.faults.Fault.{Fault}
use Rattle.eu_base.specs.declared.faults.Fault.TheVariants.{Busy}
use Rattle.eu_base.specs.declared.tasks.Task.{Task}
use Rattle.eu_model.specs.declared.asks.Answer.{Answer}
use Rattle.eu_model.specs.declared.asks.Ask.{Ask}
use Rattle.eu_json.specs.declared.batch_write.ItemAnswer.{ItemAnswer}
use Rattle.eu_peer.specs.declared.turn.Turn.TheVariants as turn
use Rattle.eu_peer.specs.Law.{BusyTurnsWait}

pub busy_turns : {D P C : Type 0} (asked : D → Ask → ℕ → Result Answer Fault → D → Type 0) (submits : P → List Task → Option (List ItemAnswer) → P → Type 0) (tells : C → ℕ → C → Type 0)
    → BusyTurnsWait asked submits tells
busy_turns asked submits tells number old new (Ok turn.Idle) only (t, tick, (inl drained, same)) = let e = only t _ _ drained in cc
busy_turns asked submits tells number old new (Ok turn.Idle) only (t, tick, (inr (a, none, drained), same)) = let e = only t _ _ drained in cc
busy_turns asked submits tells number old new (Ok turn.Waiting) only (t, tick, taken) = (t, tick, taken)
busy_turns asked submits tells number old new (Ok (turn.Sent n adopted)) only (t, tick, (tasks, mid, drained, sends)) = let e = only t _ _ drained in cc
busy_turns asked submits tells number old new (Ok (turn.Lost n)) only (t, tick, (tasks, mid, drained, sends)) = let e = only t _ _ drained in cc
busy_turns asked submits tells number old new (Err f) only (t, tick, inl (refused, filled, free, same)) =
    let e = only t _ _ refused in
    let is : f ≡ Busy = cc in
    absurd (free is)
busy_turns asked submits tells number old new (Err f) only (t, tick, inr (inl taken)) = (t, tick, taken)
busy_turns asked submits tells number old new (Err f) only (t, tick, inr (inr (tasks, mid, drained, sends))) = let e = only t _ _ drained in cc
