-- What an audit tells, of the run whose account a desk keeps
use Rattle.std.proofs.Common.{◌↔◌, ℕ, Bool, IsTrue, List, [], length, take, Option, Some, None, Result, Ok, Err, OnErr, false, refl, sym, subst}
use Rattle.std.proofs.KnownBytes.{Appends-kept}
use Rattle.std.proofs.lemmas.Bool.{true≢false}
use Rattle.std.proofs.Math.Seq.{take-length}
use Rattle.std.specs.Io.KnownBytes.{Appends, Keeps}
use Rattle.eu_audit.specs.PlainForm.{IsRun}
use Rattle.eu_base.specs.declared.settings.Config.{Config}
use Rattle.eu_book.specs.Account.{Account}
use Rattle.eu_book.specs.Peers.{state_of}
use Rattle.eu_lines.specs.declared.faults.ScriptFault.{ScriptFault}
use Rattle.eu_lines.specs.declared.faults.ScriptFault.TheVariants.{BadLine, Read, Write, OutOfMemory}
use Rattle.eu_lines.specs.Script.{Streams}
use Rattle.eu_script.specs.declared.desk.ScriptDesk.{ScriptDesk}
use Rattle.eu_script.specs.Audit.{Judges, AuditRuns, audit_text}
use Rattle.eu_script.specs.ScriptDesk.{Audits, HoldsRun, Leaves, Writes}
use Rattle.eu_script.specs.Script.{Ran}
use Rattle.eu_script.proofs.Scripts.{without_memory}

-- a text that was written whole is written in front where its flush failed
pub flushed : {E : Type 0} (old mid new : Option (List ℕ)) (text : List ℕ) (r : Result (Unit {0}) E) → Appends old mid text → Keeps mid new → OnErr r ((k : ℕ) × Appends old new (take k text))
flushed old mid new text (Ok u) whole kept = tt
flushed old mid new text (Err e) whole kept = (length text, subst (Appends old new) (sym (take-length text)) (Appends-kept old mid new text whole kept))

-- an answer on an account is one on the run whose account it is
judges : (book : Option Account) (end : Option Ran) (answer : Bool) (n : ℕ) → HoldsRun book end → Audits book answer n → Judges end answer n
judges None None answer n holds audits = audits
judges None (Some r) answer n holds audits = absurd holds
judges (Some a) None answer n holds audits = absurd holds
judges (Some a) (Some r) answer n holds audits =
    (a.base, a.entries, holds.journal, audits.0, subst (λ s. IsTrue answer ↔ IsRun (state_of a.base) a.entries (state_of s)) holds.state audits.1)

module _ {C : Type 0} (config : Config) (asks : C → ℕ → ℕ × C) (x x' : C) (streams : Streams) (printed : List ℕ) where
  -- a script that ended by a fault is told nothing of
  pub faulted : (f : ScriptFault) → Leaves config asks x x' (record streams { writer_failed = false }) (Err f) printed → AuditRuns config asks x x' streams (Err f) []
  faulted Write p = absurd (true≢false (sym p.1.2.0))
  faulted (BadLine n) p = (refl, p.0, (printed, p.1))
  faulted Read p = (refl, p.0, (printed, p.1))
  faulted OutOfMemory p = (refl, p.0, (printed, p.1))

  module _ (d : ScriptDesk) (leaves : Leaves config asks x x' (record streams { writer_failed = false }) (Ok d) printed) where
    -- nor where there was no memory for the audit
    pub unjudged : AuditRuns config asks x x' streams (Err OutOfMemory) []
    unjudged =
        let ran = without_memory config asks x x' (record streams { writer_failed = false }) printed leaves.0 leaves.1 in
        (refl, ran.0, (printed, ran.1))

    module _ (answer : Bool) (n : ℕ) (audits : Audits d.book answer n) where
      -- the line is the answer of the audit
      pub told : (line : List ℕ) → Writes (audit_text answer n) streams.writer_failed (Ok tt) line → AuditRuns config asks x x' streams (Ok answer) line
      told line is = (leaves.0, (printed, leaves.1), n, judges d.book leaves.0 answer n leaves.2 audits, is)

      -- a front of the line is written, or nothing
      pub untold : (f : ScriptFault) (out : List ℕ) → Writes (audit_text answer n) streams.writer_failed (Err f) out → AuditRuns config asks x x' streams (Err f) out
      untold Write out is = (is.0, answer, _, told _ refl, is.1, is.2)
      untold OutOfMemory out is = rw is unjudged
      untold (BadLine m) out is = absurd is
      untold Read out is = absurd is
