-- How a visit leaves a connection
use Rattle.std.specs.Prelude.{ℕ, List, [], ◌∷◌, Bool, true, false, Option, Some, None, Result, Ok, Err, ◌||◌}
use Rattle.eu_hall.specs.declared.guest.Left.{Left}
use Rattle.eu_hall.specs.declared.guest.Left.TheVariants.{Waits, GoesOn, SendsOn, Long, Gone}
use Rattle.eu_hall.specs.declared.phase.Happened.TheVariants as happened
use Rattle.eu_hall.specs.declared.phase.Phase.{Phase}
use Rattle.eu_hall.specs.declared.phase.Phase.TheVariants.{Idle, Asking}
use Rattle.eu_session.specs.declared.faults.SessionFault.{SessionFault}
use Rattle.eu_session.specs.declared.faults.SessionFault.TheVariants as fault
use Rattle.eu_session.specs.declared.talk.Turned.{Turned}
use Rattle.eu_session.specs.declared.talk.Turned.TheVariants as turned
use Rattle.eu_workers.specs.declared.gated.Halt.{Halt}
use Rattle.eu_workers.specs.declared.gated.Halt.TheVariants as halt
use Rattle.eu_workers.specs.declared.sessions.Progress.{Progress}
use Rattle.eu_workers.specs.declared.sessions.Progress.TheVariants.{Answered, Over}

-- what is awaited of a peer of whose session these bytes were read and not yet used: a request, or the rest of one
abbrev pub phase_of : List ℕ → Phase
phase_of [] = Idle
phase_of (byte ∷ bytes) = Asking

-- the same, of a visit at which a request was answered: what is left to others then is a request that begins anew
abbrev pub after_answers : Left → Left
after_answers (Waits phase what) = Waits phase happened.Answered
after_answers GoesOn = GoesOn
after_answers (SendsOn what) = SendsOn happened.Answered
after_answers Long = GoesOn
after_answers Gone = Gone

-- the same, where a request was just answered and nothing more has come; none where the visit goes on, since more may be there or the session has ended
abbrev pub rests : Bool → List ℕ → Bool → Option Left
rests true [] false = Some (Waits Idle happened.Answered)
rests true [] true = None
rests true (byte ∷ bytes) has_ended = None
rests false inbox has_ended = None

-- what a read that failed tells: the gate stopped it; so much came that others are to read on; it would have waited; or the connection has failed
abbrev pub halt_of : Bool → Bool → Bool → Halt
halt_of true was_cut waits = halt.Failed
halt_of false true waits = halt.Long
halt_of false false true = halt.Waits
halt_of false false false = halt.Failed

-- how that leaves the connection, of whose session these bytes weren't used
abbrev pub left_by : Halt → List ℕ → Left
left_by halt.Waits inbox = Waits (phase_of inbox) happened.Nothing
left_by halt.Long inbox = Long
left_by halt.Failed inbox = Gone

-- what came of a turn, where a read that failed tells that, and these bytes weren't used; that there was no memory for an answer may have been told
abbrev pub judged : Result Turned SessionFault → Halt → List ℕ → Progress
judged (Ok turned.GoesOn) told inbox = Answered
judged (Ok (turned.Ended requests)) told inbox = Answered
judged (Err fault.Read) told inbox = Over (left_by told inbox)
judged (Err fault.Write) told inbox = Over Gone
judged (Err fault.OutOfMemory) told inbox = Answered

-- whether the session has ended by the turn, and what was told is to be sent
abbrev pub has_ended : Result Turned SessionFault → Bool
has_ended (Ok turned.GoesOn) = false
has_ended (Ok (turned.Ended requests)) = true
has_ended (Err fault.OutOfMemory) = true
has_ended (Err fault.Read) = false
has_ended (Err fault.Write) = false
