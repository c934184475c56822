-- What each ask does to a desk, a session does: a relation that holds where nothing is asked, and goes on from one ask to the next
use Rattle.std.proofs.Common.{◌≡◌, ℕ, Bool, List, [], ◌∷◌, Option, Result, Ok, Err, ap, inl, inr}
use Rattle.eu_base.specs.declared.faults.Fault.{Fault}
use Rattle.eu_framing.specs.declared.request.Request.{Request}
use Rattle.eu_model.specs.declared.asks.Answer.{Answer}
use Rattle.eu_model.specs.declared.asks.Ask.{Ask}
use Rattle.eu_http.specs.declared.exchange.Outcome.{Outcome}
use Rattle.eu_http.specs.declared.exchange.Outcome.TheVariants.{Refused, Forbidden, Answers}
use Rattle.eu_http.specs.declared.policy.Policy.{Policy}
use Rattle.eu_session.specs.declared.faults.SessionFault.{SessionFault}
use Rattle.eu_session.specs.declared.faults.SessionFault.TheVariants.{Read, Write, OutOfMemory}
use Rattle.eu_model.specs.Chain.{Chain, Pairs}
use Rattle.eu_session.specs.declared.talk.Turned.{Turned}
use Rattle.eu_session.specs.declared.talk.Turned.TheVariants.{GoesOn, Ended}
use Rattle.eu_session.specs.Talk.{Takes}
use Rattle.eu_session.specs.Session.{Ends, Session, Streams, Standing, Turn, Step, ComesOf, DidNothing}

module _ {D : Type 0} (policy : Policy) (asked : D → Ask → ℕ → Result Answer Fault → D → Type 0) (R : D → D → Type 0)
    (none : (a b : D) → b ≡ a → R a b)
    (on : (a b c : D) → R a b → R b c → R a c)
    (one : (a : D) (ask : Ask) (t : ℕ) (r : Result Answer Fault) (b : D) → asked a ask t r b → R a b) where
  pairs_keep : (t : ℕ) (a b : D) (asks : List Ask) (rs : List (Result Answer Fault)) → Pairs (λ s ask r s'. asked s ask t r s') a asks rs b → R a b
  pairs_keep t a b [] [] e = none a b e
  pairs_keep t a b (ask ∷ others) (r ∷ rs) (mid, here, rest) = on a mid b (one a ask t r mid here) (pairs_keep t mid b others rs rest)
  pairs_keep t a b [] (r ∷ rs) never = absurd never
  pairs_keep t a b (ask ∷ others) [] never = absurd never

  comes_keep : (a b : D) (request : Request) (t : ℕ) (outcome : Outcome) → ComesOf policy asked a request t outcome b → R a b
  comes_keep a b request t (Refused fault) is = none a b is.1
  comes_keep a b request t Forbidden is = none a b is.1
  comes_keep a b request t (Answers wanted results) is = pairs_keep t a b is.0.asks results.items is.3

  module _ {C : Type 0} (tells : C → ℕ → C → Type 0) where
    step_keeps : (old new : Standing D C) (t : Turn) → Step policy asked tells old t new → R old.desk new.desk
    step_keeps old new t step = comes_keep old.desk new.desk t.request t.moment t.outcome step.comes

    turns_keep : (old new : Standing D C) (ts : List Turn) → Chain (Step policy asked tells) old ts new → R old.desk new.desk
    turns_keep old new [] e = none old.desk new.desk (ap (λ s. s.desk) e)
    turns_keep old new (t ∷ ts) (mid, here, rest) = on old.desk mid.desk new.desk (step_keeps old mid t here) (turns_keep mid new ts rest)

    nothing_keeps : (old new : Standing D C) → DidNothing policy asked tells old new → R old.desk new.desk
    nothing_keeps old new (inl untouched) = none old.desk new.desk untouched.desk_is
    nothing_keeps old new (inr (inl unasked)) = none old.desk new.desk unasked.desk_is
    nothing_keeps old new (inr (inr (t, step, idle))) = step_keeps old new t step

    ends_keep : (n : ℕ) (old new : Standing D C) (s : Streams) (result : Result ℕ SessionFault)
        → Ends policy asked tells n old new s result → R old.desk new.desk
    ends_keep n old new s (Ok m) (inl e) = none old.desk new.desk e.1.untouched.desk_is
    ends_keep n old new s (Ok m) (inr (is, inl closes)) = step_keeps old new closes.turn closes.step
    ends_keep n old new s (Ok m) (inr (is, inr refuses)) = none old.desk new.desk refuses.untouched.desk_is
    ends_keep n old new s (Err Read) e = none old.desk new.desk e.1.desk_is
    ends_keep n old new s (Err Write) (failed, inl loses) = step_keeps old new loses.turn loses.step
    ends_keep n old new s (Err Write) (failed, inr (inl loses)) = none old.desk new.desk loses.untouched.desk_is
    ends_keep n old new s (Err Write) (failed, inr (inr loses)) = nothing_keeps old new loses.nothing
    ends_keep n old new s (Err OutOfMemory) (inl told) = nothing_keeps old new told.0
    ends_keep n old new s (Err OutOfMemory) (inr unanswered) = step_keeps old new unanswered.1.0 unanswered.1.1

    pub session_keeps : (old new : Standing D C) (s : Streams) (result : Result ℕ SessionFault)
        → Session policy asked tells old new s result → R old.desk new.desk
    session_keeps old new s result session =
        on old.desk session.last.desk new.desk
        (turns_keep old session.last session.goes_on.turns session.goes_on.chain)
        (ends_keep session.n session.last _ (record s { before = session.held }) result session.ends)

    -- a turn that stands apart
    pub takes_keep : (n m : ℕ) (old new : Standing D C) (s : Streams) (ahead : List ℕ) (turned : Result Turned SessionFault)
        → Takes policy asked tells n m old new s ahead turned → R old.desk new.desk
    takes_keep n m old new s ahead (Ok GoesOn) takes = turns_keep old new takes.1.turns takes.1.chain
    takes_keep n m old new s ahead (Ok (Ended k)) takes = ends_keep n old new s (Ok k) takes.1
    takes_keep n m old new s ahead (Err fault) takes = ends_keep n old new s (Err fault) takes.2
