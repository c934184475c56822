-- A turn by which what waits for a peer is sent to it
use Rattle.std.specs.Prelude.{◌≡◌, ◌≢◌, ◌⊎◌, ℕ, ◌+◌, ◌==◌, ◌&&◌, List, [], ◌∷◌, length, map, Option, Some, None, Result, Ok, Err, if◌then◌else◌}
use Rattle.eu_base.specs.declared.faults.Fault.{Fault}
use Rattle.eu_base.specs.declared.faults.Fault.TheVariants.{OutOfMemory, EmptyBatch, Busy}
use Rattle.eu_base.specs.declared.instances.Instance.{Instance}
use Rattle.eu_base.specs.declared.tasks.Action.TheVariants.{Heartbeat}
use Rattle.eu_base.specs.declared.tasks.Task.{Task}
use Rattle.eu_base.specs.Values.{is_action}
use Rattle.eu_model.specs.declared.asks.Answer.{Answer}
use Rattle.eu_model.specs.declared.asks.Answer.TheVariants.{Did}
use Rattle.eu_model.specs.declared.asks.Ask.{Ask}
use Rattle.eu_model.specs.declared.asks.Ask.TheVariants.{Do}
use Rattle.eu_json.specs.declared.batch_write.ItemAnswer.{ItemAnswer}
use Rattle.eu_model.specs.declared.commands.Command.TheVariants.{Adopt, Drain, Landed, Lost}
use Rattle.eu_model.specs.declared.commands.Reply.TheVariants as reply
use Rattle.eu_peer.specs.declared.turn.Turn.{Turn}
use Rattle.eu_peer.specs.declared.turn.Turn.TheVariants as turn
use Rattle.eu_model.specs.Chain.{Pairs}

-- who takes part in a turn: the desk that is asked, the peer, and the clock that tells the moment
pub record Parties (D P C : Type 0) : Type 0 where
  pub desk : D
  pub peer : P
  pub clock : C

-- ---- what the answers say

abbrev pub code : ItemAnswer → ℕ
code a = a.code

-- a heartbeat that is answered 409 tells the newer instance that the peer holds
abbrev pub newer : Task → ItemAnswer → Option Instance
newer t a = if is_action t.action Heartbeat && (a.code == 409) then a.instance else None

abbrev pub and_then : Option Instance → List Instance → List Instance
and_then None is = is
and_then (Some i) is = i ∷ is

abbrev pub all_newer : List Task → List ItemAnswer → List Instance
all_newer [] answers = []
all_newer (t ∷ ts) [] = []
all_newer (t ∷ ts) (a ∷ others) = and_then (newer t a) (all_newer ts others)

-- a drain was answered with no batch
abbrev pub NoBatch : Answer → Type 0
NoBatch a = (tasks : List Task) → a ≢ Did (reply.Batch tasks)

-- how many asks were accepted
abbrev pub accepted : List (Result Answer Fault) → ℕ
accepted [] = 0
accepted (Ok a ∷ rs) = accepted rs + 1
accepted (Err f ∷ rs) = accepted rs

-- ---- what the turn asks, `asked s ask moment result s'` of the desk, at one moment

module _ {D : Type 0} (asked : D → Ask → ℕ → Result Answer Fault → D → Type 0) (moment : ℕ) where
  -- each instance is put to be adopted, in order, whatever came of the one before
  abbrev pub Adopts : D → List Instance → ℕ → D → Type 0
  Adopts desk instances adopted desk' =
      (results : List (Result Answer Fault)) × Pairs (λ s i result s'. asked s (Do (Adopt i)) moment result s') desk instances results desk' × (adopted ≡ accepted results)

  -- the batch in flight is taken for lost
  abbrev pub GivesBack : ℕ → D → Result Unit Fault → D → Type 0
  GivesBack peer desk (Ok _) desk' = (a : Answer) × asked desk (Do (Lost peer)) moment (Ok a) desk'
  GivesBack peer desk (Err f) desk' = asked desk (Do (Lost peer)) moment (Err f) desk'

  -- The answers end the batch in flight, and then the newer instances are put to be adopted. Where there is no memory for that, the batch
  -- stays in flight
  abbrev pub Lands : ℕ → D → List Task → List ItemAnswer → Result Turn Fault → D → Type 0
  Lands peer desk tasks answers (Ok (turn.Sent n adopted)) desk' =
      (n ≡ length tasks)
      × (mid : D) × (a : Answer) × asked desk (Do (Landed peer (map code answers))) moment (Ok a) mid
      × Adopts mid (all_newer tasks answers) adopted desk'
  Lands peer desk tasks answers (Err f) desk' =
      asked desk (Do (Landed peer (map code answers))) moment (Err f) desk' ⊎ ((f ≡ OutOfMemory) × (desk' ≡ desk))
  Lands peer desk tasks answers _ desk' = ⊥

  module _ {P : Type 0} (submits : P → List Task → Option (List ItemAnswer) → P → Type 0) where
    -- the peer gave none, or not one a task
    abbrev pub Unanswered : P → List Task → P → Type 0
    Unanswered p tasks p' = submits p tasks None p' ⊎ ((answers : List ItemAnswer) × submits p tasks (Some answers) p' × (length answers ≢ length tasks))

    -- the peer gave one a task
    abbrev pub Answered : P → List Task → List ItemAnswer → P → Type 0
    Answered p tasks answers p' = submits p tasks (Some answers) p' × (length answers ≡ length tasks)

    -- the batch in flight is sent, and ends by the answers, or is taken for lost
    abbrev pub Sends : ℕ → D → P → List Task → Result Turn Fault → D → P → Type 0
    Sends peer desk p tasks (Ok (turn.Sent n adopted)) desk' p' =
        (answers : List ItemAnswer) × Answered p tasks answers p' × Lands peer desk tasks answers (Ok (turn.Sent n adopted)) desk'
    Sends peer desk p tasks (Ok (turn.Lost n)) desk' p' = (n ≡ length tasks) × Unanswered p tasks p' × GivesBack peer desk (Ok tt) desk'
    Sends peer desk p tasks (Err f) desk' p' =
        ((answers : List ItemAnswer) × Answered p tasks answers p' × Lands peer desk tasks answers (Err f) desk')
        ⊎ (Unanswered p tasks p' × GivesBack peer desk (Err f) desk')
    Sends peer desk p tasks _ desk' p' = ⊥

    -- after the drain was answered with a batch
    abbrev pub Drained : ℕ → D → P → Result Turn Fault → D → P → Type 0
    Drained peer desk p result desk' p' =
        (tasks : List Task) × (mid : D) × asked desk (Do (Drain peer)) moment (Ok (Did (reply.Batch tasks))) mid × Sends peer mid p tasks result desk' p'

    -- after it was refused, as a batch is in flight already
    abbrev pub Taken : ℕ → D → P → Result Unit Fault → D → P → Type 0
    Taken peer desk p result desk' p' =
        (mid : D) × asked desk (Do (Drain peer)) moment (Err Busy) mid × GivesBack peer mid result desk' × (p' ≡ p)

    -- The whole turn, by what came of it
    abbrev pub TurnsAt : ℕ → D → P → Result Turn Fault → D → P → Type 0
    TurnsAt peer desk p (Ok turn.Idle) desk' p' =
        (asked desk (Do (Drain peer)) moment (Err EmptyBatch) desk' ⊎ ((a : Answer) × NoBatch a × asked desk (Do (Drain peer)) moment (Ok a) desk')) × (p' ≡ p)
    TurnsAt peer desk p (Ok turn.Waiting) desk' p' = Taken peer desk p (Ok tt) desk' p'
    TurnsAt peer desk p (Ok (turn.Sent n adopted)) desk' p' = Drained peer desk p (Ok (turn.Sent n adopted)) desk' p'
    TurnsAt peer desk p (Ok (turn.Lost n)) desk' p' = Drained peer desk p (Ok (turn.Lost n)) desk' p'
    TurnsAt peer desk p (Err f) desk' p' =
        (asked desk (Do (Drain peer)) moment (Err f) desk' × (f ≢ EmptyBatch) × (f ≢ Busy) × (p' ≡ p))
        ⊎ (Taken peer desk p (Err f) desk' p' ⊎ Drained peer desk p (Err f) desk' p')

-- at one moment, which the clock told
abbrev pub Turns :
    {D P C : Type 0} → (D → Ask → ℕ → Result Answer Fault → D → Type 0) → (P → List Task → Option (List ItemAnswer) → P → Type 0)
    → (C → ℕ → C → Type 0) → ℕ → Parties D P C → Result Turn Fault → Parties D P C → Type 0
Turns asked submits tells number old result new =
    (moment : ℕ) × tells old.clock moment new.clock × TurnsAt asked moment submits number old.desk old.peer result new.desk new.peer
