-- Sessions, turn by turn: what one does to its desk, its clock and its writer, by its result
use Rattle.std.specs.Prelude.{◌≡◌, ℕ, Bool, true, ◌||◌, ◌==◌, List, Option, Some, None, Result, Ok, Err, ◌⊎◌, ◌+◌, ◌<◌, false, length, flat_map, take, ⊤}
use Rattle.eu_base.specs.declared.faults.Fault.{Fault}
use Rattle.eu_base.specs.declared.faults.Fault.TheVariants as faults
use Rattle.eu_framing.specs.declared.request.Request.{Request}
use Rattle.eu_framing.specs.Message.{IsFault, FindsNext, Between, OfBytes, IsCut, pending}
use Rattle.eu_model.specs.declared.asks.Answer.{Answer}
use Rattle.eu_model.specs.declared.asks.Answer.TheVariants.{Did}
use Rattle.eu_model.specs.declared.asks.Ask.{Ask}
use Rattle.eu_http.specs.declared.exchange.Outcome.{Outcome}
use Rattle.eu_http.specs.declared.exchange.Outcome.TheVariants.{Refused, Forbidden, Answers}
use Rattle.eu_http.specs.declared.policy.Policy.{Policy}
use Rattle.eu_http.specs.Asks.{Wants, asks_of}
use Rattle.eu_http.specs.Response.{refused, response, print}
use Rattle.eu_model.specs.Chain.{Pairs, Chain}
use Rattle.std.specs.List.{AllByRecursion, list_any}
use Rattle.std.specs.Io.KnownBytes.{Appends, Keeps}
use Rattle.eu_session.specs.declared.faults.SessionFault.{SessionFault}
use Rattle.eu_session.specs.declared.faults.SessionFault.TheVariants.{Read, Write, OutOfMemory}

-- ---- one turn of a session: a request, what comes of it, and its response

-- a request that was answered
pub record Turn : Type 0 where
  pub request : Request
  pub moment : ℕ
  pub outcome : Outcome
  pub close : Bool

-- the text of its response
abbrev pub text_of : Turn → List ℕ
text_of t = response t.outcome t.close

-- the text for bytes that begin with no request, by this fault; it says that the connection ends
abbrev pub refusal : Fault → List ℕ
refusal fault = print (refused fault) true

-- a command was done
abbrev pub is_done : Result Answer Fault → Bool
is_done (Ok (Did reply)) = true
is_done other = false

-- something was done by what the request asked, so that a refusal would be false
abbrev pub did_something : Outcome → Bool
did_something (Answers wanted results) = list_any is_done results.items
did_something (Refused fault) = false
did_something Forbidden = false

-- the session ends with the request at the place k, counted from 0: it asks for that, or is the 100th
abbrev pub is_last : ℕ → Request → Bool
is_last k request = request.closes || (k == 99)

-- what a session changes between its turns: the bytes that are to come, where they are known, the desk and the clock
pub record Standing (D C : Type 0) : Type 0 where
  pub left : Option (List ℕ)
  pub desk : D
  pub clock : C

-- neither the desk nor the clock was asked anything
pub record Untouched (D C : Type 0) (old new : Standing D C) : Type 0 where
  pub desk_is : new.desk ≡ old.desk
  pub clock_is : new.clock ≡ old.clock

-- the bytes to come begin with no request, by this fault
abbrev pub Breaks : Option (List ℕ) → Fault → Type 0
Breaks left fault = OfBytes left (λ bytes. IsFault bytes fault)

-- `policy` says which requests are taken. `asked s ask moment result s'`: a desk in the state s, asked at the moment, gives the result and is in the
-- state s' then
module _ {D : Type 0} (policy : Policy) (asked : D → Ask → ℕ → Result Answer Fault → D → Type 0) where
  -- What comes of a request at a moment. What it asks is put to the desk, each ask once, in order, and their results are the
  -- outcome. Of a request that is refused, or that the policy forbids, or that asks for what is forbidden, the desk is asked nothing.
  abbrev pub ComesOf : D → Request → ℕ → Outcome → D → Type 0
  ComesOf desk request moment (Refused fault) desk' = (asks_of policy request moment ≡ Err fault) × (desk' ≡ desk)
  ComesOf desk request moment Forbidden desk' = (asks_of policy request moment ≡ Ok None) × (desk' ≡ desk)
  ComesOf desk request moment (Answers wanted results) desk' =
      (wants : Wants) × (asks_of policy request moment ≡ Ok (Some wants)) × (wanted ≡ wants.wanted)
      × Pairs (λ s ask result s'. asked s ask moment result s') desk wants.asks results.items desk'

-- `tells c moment c'`: a clock in the state c tells the moment and is in the state c' then
module _ {D C : Type 0} (policy : Policy) (asked : D → Ask → ℕ → Result Answer Fault → D → Type 0) (tells : C → ℕ → C → Type 0) where
  -- One turn: its request is the next of the bytes to come, the clock tells its moment, once, and this comes of it.
  pub record Step (old : Standing D C) (t : Turn) (new : Standing D C) : Type 0 where
    pub reads : Between old.left new.left (FindsNext (Some t.request))
    pub told : tells old.clock t.moment new.clock
    pub comes : ComesOf policy asked old.desk t.request t.moment t.outcome new.desk

  -- A turn that memory ended before the desk was asked: the next request was read, and the clock asked once.
  pub record Unasked (old new : Standing D C) : Type 0 where
    pub request : Request
    pub moment : ℕ
    pub reads : Between old.left new.left (FindsNext (Some request))
    pub told : tells old.clock moment new.clock
    pub desk_is : new.desk ≡ old.desk

-- ---- what a session does to its desk, its clock and its writer, by its result

-- The session goes on after the turn: its request doesn't close, nor does its response say so.
pub record IsOpen (t : Turn) : Type 0 where
  pub request : t.request.closes ≡ false
  pub response : t.close ≡ false

-- A part of a session: from old to new requests were answered, one after another, each by a `step`, and the session goes on. It had n requests
-- before and has m now; they are fewer than 100, and none closes it. What was written is their responses, in order.
pub record Part {S : Type 0} (step : S → Turn → S → Type 0) (n m : ℕ) (old new : S) (before after : Option (List ℕ)) : Type 0 where
  pub turns : List Turn
  pub chain : Chain step old turns new
  pub count : m ≡ n + length turns
  pub few : m < 100
  pub each : AllByRecursion IsOpen turns
  pub written : Appends before after (flat_map text_of turns)

-- Where a read failed no byte was lost, and those that were read ahead begin with no whole request: each that came whole before was answered.
abbrev pub FailsClean : Option (List ℕ) → Option (List ℕ) → List ℕ → Result ℕ SessionFault → Type 0
FailsClean old new ahead (Ok m) = ⊤
FailsClean old new ahead (Err Read) = Keeps old new × IsCut ahead
FailsClean old new ahead (Err Write) = ⊤
FailsClean old new ahead (Err OutOfMemory) = ⊤

-- what the writer held before and holds after, and whether the reader and the writer have failed
pub record Streams : Type 0 where
  pub before : Option (List ℕ)
  pub after : Option (List ℕ)
  pub reader_failed : Bool
  pub writer_failed : Bool

-- `asked` and `tells` are what a desk answers and what a clock tells. `before` and `after` are what the writer holds.
module _ {D C : Type 0} (policy : Policy) (asked : D → Ask → ℕ → Result Answer Fault → D → Type 0) (tells : C → ℕ → C → Type 0) where
  -- The bytes end before a request, and nothing was asked or written.
  pub record EndsBytes (old new : Standing D C) (before after : Option (List ℕ)) : Type 0 where
    pub ends : Between old.left new.left (FindsNext None)
    pub untouched : Untouched D C old new
    pub written : Keeps before after

  -- The request at the place k is the last, and its response says so.
  pub record Closes (k : ℕ) (old new : Standing D C) (before after : Option (List ℕ)) : Type 0 where
    pub turn : Turn
    pub step : Step policy asked tells old turn new
    pub last : is_last k turn.request ≡ true
    pub close : turn.close ≡ true
    pub written : Appends before after (text_of turn)

  -- The bytes begin with no request. The fault was written, and nothing was asked.
  pub record AnswersFault (old new : Standing D C) (before after : Option (List ℕ)) : Type 0 where
    pub fault : Fault
    pub breaks : Breaks old.left fault
    pub untouched : Untouched D C old new
    pub written : Appends before after (refusal fault)

  -- A request was answered, but only a front of its response was written; all of it may have been, where the flush failed.
  pub record LosesResponse (k : ℕ) (old new : Standing D C) (before after : Option (List ℕ)) : Type 0 where
    pub turn : Turn
    pub step : Step policy asked tells old turn new
    pub close : turn.close ≡ is_last k turn.request
    pub len : ℕ
    pub written : Appends before after (take len (text_of turn))

  -- The bytes begin with no request, but only a front of the fault's text was written. Nothing was asked.
  pub record LosesRefusal (old new : Standing D C) (before after : Option (List ℕ)) : Type 0 where
    pub fault : Fault
    pub breaks : Breaks old.left fault
    pub untouched : Untouched D C old new
    pub len : ℕ
    pub written : Appends before after (take len (refusal fault))

  -- Nothing was done: nothing was asked, or the clock alone was, or all that the request asks was, and that did nothing.
  abbrev pub DidNothing : Standing D C → Standing D C → Type 0
  DidNothing old new =
      Untouched D C old new ⊎ (Unasked policy asked tells old new ⊎ ((t : Turn) × Step policy asked tells old t new × (did_something t.outcome ≡ false)))

  -- There was no memory, and nothing was done. But only a front of the text that tells so was written.
  pub record LosesExcuse (old new : Standing D C) (before after : Option (List ℕ)) : Type 0 where
    pub nothing : DidNothing old new
    pub len : ℕ
    pub written : Appends before after (take len (refusal faults.OutOfMemory))

  -- How a session that goes on after n requests ends, by its result.
  abbrev pub Ends : ℕ → Standing D C → Standing D C → Streams → Result ℕ SessionFault → Type 0
  -- The bytes end; or one request more closes the session; or there is none by some fault, which counts as one.
  Ends n old new s (Ok m) =
      ((m ≡ n) × EndsBytes old new s.before s.after)
      ⊎ ((m ≡ n + 1) × (Closes n old new s.before s.after ⊎ AnswersFault old new s.before s.after))
  -- The reader failed before the next request was whole: nothing was asked or written.
  Ends n old new s (Err Read) = (s.reader_failed ≡ true) × Untouched D C old new × Keeps s.before s.after
  -- The writer failed.
  Ends n old new s (Err Write) =
      (s.writer_failed ≡ true)
      × (LosesResponse n old new s.before s.after ⊎ (LosesRefusal old new s.before s.after ⊎ LosesExcuse old new s.before s.after))
  -- There was no memory. Where nothing was done, the refusal by OutOfMemory was written. Else nothing was written.
  Ends n old new s (Err OutOfMemory) =
      (DidNothing old new × Appends s.before s.after (refusal faults.OutOfMemory))
      ⊎ (Keeps s.before s.after × ((t : Turn) × Step policy asked tells old t new × (did_something t.outcome ≡ true)))

  -- A session, by its result: requests are answered, and it ends. `ahead` was read of the bytes, and isn't used.
  pub record Session (old new : Standing D C) (s : Streams) (result : Result ℕ SessionFault) : Type 0 where
    pub n : ℕ
    pub last : Standing D C
    pub held : Option (List ℕ)
    pub goes_on : Part (Step policy asked tells) 0 n old last s.before held
    pub ahead : List ℕ
    pub unread : FailsClean last.left (pending ahead new.left) ahead result
    pub ends : Ends n last (record { left = pending ahead new.left; desk = new.desk; clock = new.clock }) (record s { before = held }) result
