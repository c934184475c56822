-- A session that is taken up again and again: what one turn does to it, and how turns that stand apart make one session
use Rattle.std.specs.Prelude.{◌≡◌, ℕ, ◌+◌, List, Option, Result, Ok, Err}
use Rattle.eu_base.specs.declared.faults.Fault.{Fault}
use Rattle.eu_framing.specs.Message.{pending}
use Rattle.eu_http.specs.declared.policy.Policy.{Policy}
use Rattle.eu_model.specs.declared.asks.Answer.{Answer}
use Rattle.eu_model.specs.declared.asks.Ask.{Ask}
use Rattle.eu_session.specs.declared.faults.SessionFault.{SessionFault}
use Rattle.eu_session.specs.declared.talk.Turned.{Turned}
use Rattle.eu_session.specs.declared.talk.Turned.TheVariants.{GoesOn, Ended}
use Rattle.eu_session.specs.Session.{Ends, FailsClean, Part, Session, Standing, Step, Streams, Turn}

-- by what a turn gave, the session ended with this result
abbrev pub EndsBy : Result Turned SessionFault → Result ℕ SessionFault → Type 0
EndsBy (Ok GoesOn) result = ⊥
EndsBy (Ok (Ended n)) result = result ≡ Ok n
EndsBy (Err fault) result = result ≡ Err fault

-- `asked` and `tells` are what a desk answers and what a clock tells.
module _ {D C : Type 0} (policy : Policy) (asked : D → Ask → ℕ → Result Answer Fault → D → Type 0) (tells : C → ℕ → C → Type 0) where
  -- What a turn does to a session that had n requests, by its result; it has m then. `ahead` was read of the bytes, and isn't used.
  abbrev pub Takes : ℕ → ℕ → Standing D C → Standing D C → Streams → List ℕ → Result Turned SessionFault → Type 0
  -- One request more was answered, and the session goes on.
  Takes n m old new s ahead (Ok GoesOn) = (m ≡ n + 1) × Part (Step policy asked tells) n m old new s.before s.after
  -- It has ended, with k requests in all.
  Takes n m old new s ahead (Ok (Ended k)) = (m ≡ n) × Ends policy asked tells n old new s (Ok k)
  -- A fault ended the turn. Where it was a failed read, the session is as it was, so it can be taken up again: no byte was lost, and nothing asked or written.
  Takes n m old new s ahead (Err fault) = (m ≡ n) × FailsClean old.left new.left ahead (Err fault) × Ends policy asked tells n old new s (Err fault)

  -- ---- at one desk

  -- Parts that follow one another are one part.
  abbrev pub PartsJoin : Type 0
  PartsJoin =
      (n m k : ℕ) (old mid new : Standing D C) (before held after : Option (List ℕ))
      → Part (Step policy asked tells) n m old mid before held → Part (Step policy asked tells) m k mid new held after → Part (Step policy asked tells) n k old new before after

  -- A part from the beginning on, and a turn by which the session ended, are a session.
  abbrev pub PartsEnd : Type 0
  PartsEnd =
      (n m : ℕ) (old mid new : Standing D C) (s : Streams) (held : Option (List ℕ)) (ahead : List ℕ) (turned : Result Turned SessionFault) (result : Result ℕ SessionFault)
      → Part (Step policy asked tells) 0 n old mid s.before held
      → Takes n m mid (record { left = pending ahead new.left; desk = new.desk; clock = new.clock }) (record s { before = held }) ahead turned → EndsBy turned result
      → Session policy asked tells old new s result

  -- ---- over a connection, whose turns several workers take, each at a desk of its own; others may ask there between them

  -- One turn of the connection, by some worker: from bytes to bytes.
  pub record StepOver (left : Option (List ℕ)) (t : Turn) (left' : Option (List ℕ)) : Type 0 where
    pub desk : D
    pub clock : C
    pub desk' : D
    pub clock' : C
    pub step : Step policy asked tells (record { left = left; desk = desk; clock = clock }) t (record { left = left'; desk = desk'; clock = clock' })

  -- A session over a connection, by its result: requests are answered, each by some worker, and it ends, by some worker. `ahead` was read of the bytes, and
  -- isn't used.
  pub record SessionOver (left left' : Option (List ℕ)) (s : Streams) (result : Result ℕ SessionFault) : Type 0 where
    pub n : ℕ
    pub last : Standing D C
    pub held : Option (List ℕ)
    pub goes_on : Part StepOver 0 n left last.left s.before held
    pub ahead : List ℕ
    pub new : Standing D C
    pub left_is : new.left ≡ pending ahead left'
    pub unread : FailsClean last.left new.left ahead result
    pub ends : Ends policy asked tells n last new (record s { before = held }) result

  -- A part at a desk is one of its connection.
  abbrev pub PartsCarry : Type 0
  PartsCarry =
      (n m : ℕ) (old new : Standing D C) (before after : Option (List ℕ))
      → Part (Step policy asked tells) n m old new before after → Part StepOver n m old.left new.left before after

  -- Parts that follow one another are one part, whoever took them.
  abbrev pub PartsJoinOver : Type 0
  PartsJoinOver =
      (n m k : ℕ) (left mid left' before held after : Option (List ℕ))
      → Part StepOver n m left mid before held → Part StepOver m k mid left' held after → Part StepOver n k left left' before after

  -- A part from the beginning on, and a turn by which the session ended, at some desk, are a session.
  abbrev pub PartsEndOver : Type 0
  PartsEndOver =
      (n m : ℕ) (left left' : Option (List ℕ)) (last new : Standing D C) (s : Streams) (held : Option (List ℕ)) (ahead : List ℕ) (turned : Result Turned SessionFault) (result : Result ℕ SessionFault)
      → Part StepOver 0 n left last.left s.before held → Takes n m last new (record s { before = held }) ahead turned → new.left ≡ pending ahead left'
      → EndsBy turned result → SessionOver left left' s result
