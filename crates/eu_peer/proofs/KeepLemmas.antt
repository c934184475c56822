-- What each ask does to a desk, a turn for a peer does: a relation that holds where nothing is asked, and goes on from one ask to the next
use Rattle.std.proofs.Common.{◌≡◌, ℕ, List, [], ◌∷◌, Option, Result, Ok, Err, inl, inr}
use Rattle.eu_base.specs.declared.faults.Fault.{Fault}
use Rattle.eu_base.specs.declared.faults.Fault.TheVariants.{Busy}
use Rattle.eu_base.specs.declared.instances.Instance.{Instance}
use Rattle.eu_base.specs.declared.tasks.Task.{Task}
use Rattle.eu_model.specs.declared.asks.Answer.{Answer}
use Rattle.eu_model.specs.declared.asks.Ask.{Ask}
use Rattle.eu_model.specs.declared.asks.Ask.TheVariants.{Do}
use Rattle.eu_json.specs.declared.batch_write.ItemAnswer.{ItemAnswer}
use Rattle.eu_model.specs.declared.commands.Command.TheVariants.{Adopt, Drain, Landed, Lost}
use Rattle.eu_peer.specs.declared.turn.Turn.{Turn}
use Rattle.eu_peer.specs.declared.turn.Turn.TheVariants as turn
use Rattle.eu_peer.specs.Turns.{Adopts, GivesBack, Lands, Sends, Drained, Parties, Taken, TurnsAt, Turns}
use Rattle.eu_model.specs.Chain.{Pairs}

module _ {D : Type 0} (asked : D → Ask → ℕ → Result Answer Fault → D → Type 0) (R : D → D → Type 0)
    (none : (a b : D) → b ≡ a → R a b)
    (on : (a b c : D) → R a b → R b c → R a c)
    (one : (a : D) (ask : Ask) (t : ℕ) (r : Result Answer Fault) (b : D) → asked a ask t r b → R a b)
    (moment : ℕ) where
  each_keeps : (a b : D) (is : List Instance) (rs : List (Result Answer Fault)) → Pairs (λ s i r s'. asked s (Do (Adopt i)) moment r s') a is rs b → R a b
  each_keeps a b [] [] e = none a b e
  each_keeps a b (i ∷ others) (r ∷ rs) (mid, here, rest) = on a mid b (one a (Do (Adopt i)) moment r mid here) (each_keeps mid b others rs rest)
  each_keeps a b [] (r ∷ rs) never = absurd never
  each_keeps a b (i ∷ others) [] never = absurd never

  gives_back_keeps : (peer : ℕ) (a b : D) (result : Result Unit Fault) → GivesBack asked moment peer a result b → R a b
  gives_back_keeps peer a b (Ok u) is = one a (Do (Lost peer)) moment (Ok is.0) b is.1
  gives_back_keeps peer a b (Err f) is = one a (Do (Lost peer)) moment (Err f) b is

  lands_keep : (peer : ℕ) (a b : D) (tasks : List Task) (answers : List ItemAnswer) (result : Result Turn Fault) → Lands asked moment peer a tasks answers result b → R a b
  lands_keep peer a b tasks answers (Ok (turn.Sent n adopted)) is =
      on a is.1 b (one a _ moment (Ok is.2) is.1 is.3) (each_keeps is.1 b _ is.4.0 is.4.1)
  lands_keep peer a b tasks answers (Ok turn.Idle) never = absurd never
  lands_keep peer a b tasks answers (Ok turn.Waiting) never = absurd never
  lands_keep peer a b tasks answers (Ok (turn.Lost n)) never = absurd never
  lands_keep peer a b tasks answers (Err f) (inl is) = one a _ moment (Err f) b is
  lands_keep peer a b tasks answers (Err f) (inr is) = none a b is.1

  taken_keeps : {P : Type 0} (peer : ℕ) (a : D) (p : P) (result : Result Unit Fault) (b : D) (p' : P) (submits : P → List Task → Option (List ItemAnswer) → P → Type 0)
      → Taken asked moment submits peer a p result b p' → R a b
  taken_keeps peer a p result b p' submits is = on a is.0 b (one a (Do (Drain peer)) moment (Err Busy) is.0 is.1) (gives_back_keeps peer is.0 b result is.2)

  module _ {P : Type 0} (submits : P → List Task → Option (List ItemAnswer) → P → Type 0) (peer : ℕ) (p p' : P) where
    sends_keep : (a b : D) (tasks : List Task) (result : Result Turn Fault) → Sends asked moment submits peer a p tasks result b p' → R a b
    sends_keep a b tasks (Ok (turn.Sent n adopted)) is = lands_keep peer a b tasks is.0 (Ok (turn.Sent n adopted)) is.2
    sends_keep a b tasks (Ok (turn.Lost n)) is = gives_back_keeps peer a b (Ok tt) is.2
    sends_keep a b tasks (Ok turn.Idle) never = absurd never
    sends_keep a b tasks (Ok turn.Waiting) never = absurd never
    sends_keep a b tasks (Err f) (inl is) = lands_keep peer a b tasks is.0 (Err f) is.2
    sends_keep a b tasks (Err f) (inr is) = gives_back_keeps peer a b (Err f) is.1

    drained_keeps : (a b : D) (result : Result Turn Fault) → Drained asked moment submits peer a p result b p' → R a b
    drained_keeps a b result is = on a is.1 b (one a (Do (Drain peer)) moment _ is.1 is.2) (sends_keep is.1 b is.0 result is.3)

    turn_keeps : (a b : D) (result : Result Turn Fault) → TurnsAt asked moment submits peer a p result b p' → R a b
    turn_keeps a b (Ok turn.Idle) (inl refused, same) = one a (Do (Drain peer)) moment _ b refused
    turn_keeps a b (Ok turn.Idle) (inr answered, same) = one a (Do (Drain peer)) moment (Ok answered.0) b answered.2
    turn_keeps a b (Ok turn.Waiting) is = taken_keeps peer a p (Ok tt) b p' submits is
    turn_keeps a b (Ok (turn.Sent n adopted)) is = drained_keeps a b (Ok (turn.Sent n adopted)) is
    turn_keeps a b (Ok (turn.Lost n)) is = drained_keeps a b (Ok (turn.Lost n)) is
    turn_keeps a b (Err f) (inl refused) = one a (Do (Drain peer)) moment (Err f) b refused.0
    turn_keeps a b (Err f) (inr (inl is)) = taken_keeps peer a p (Err f) b p' submits is
    turn_keeps a b (Err f) (inr (inr is)) = drained_keeps a b (Err f) is

pub turns_keep : {D P C : Type 0} (asked : D → Ask → ℕ → Result Answer Fault → D → Type 0) (R : D → D → Type 0)
    → ((a b : D) → b ≡ a → R a b)
    → ((a b c : D) → R a b → R b c → R a c)
    → ((a : D) (ask : Ask) (t : ℕ) (r : Result Answer Fault) (b : D) → asked a ask t r b → R a b)
    → (submits : P → List Task → Option (List ItemAnswer) → P → Type 0) (tells : C → ℕ → C → Type 0)
    → (number : ℕ) (old new : Parties D P C) (result : Result Turn Fault)
    → Turns asked submits tells number old result new → R old.desk new.desk
turns_keep asked R none on one submits tells number old new result is =
    turn_keeps asked R none on one is.0 submits number old.peer new.peer old.desk new.desk result is.2
