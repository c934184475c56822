-- A desk runs a script as the lease machine does
use Rattle.std.proofs.Common.{◌≡◌, ℕ, Bool, List, length, Option, None, Result, Ok, Err, refl, sym, subst, ◌∙◌, inr, arith}
use Rattle.std.proofs.Math.Seq.{take-length}
use Rattle.eu_base.specs.declared.settings.Config.{Config}
use Rattle.eu_lines.specs.declared.faults.ScriptFault.{ScriptFault}
use Rattle.eu_lines.specs.declared.faults.ScriptFault.TheVariants.{OutOfMemory}
use Rattle.eu_lines.specs.declared.limits.Limits.{Limits}
use Rattle.eu_lines.specs.Lines.{lines_of, script_limits}
use Rattle.eu_lines.specs.Script.{Place, Streams, Outcome, Printed, place}
use Rattle.eu_script.specs.declared.desk.ScriptDesk.{ScriptDesk}
use Rattle.eu_script.specs.ScriptDesk.{DeskAnswers, DeskRefuses, HoldsRun, Keeps, Leaves}
use Rattle.eu_script.specs.Script.{Ran, Answers, Refuses, ScriptRuns}
use Rattle.eu_script.proofs.Alike.{outcome, printed}

module _ {C : Type 0} (config : Config) (asks : C → ℕ → ℕ × C) where
  -- the desk has these settings, and keeps the account of this run
  abbrev IsAt : ScriptDesk → Option Ran → Type 0
  IsAt d s = (d.config ≡ config) × Keeps d s

  both : (before : Place ScriptDesk C) (s : Option Ran) (text out : List ℕ) (after : Place ScriptDesk C) → IsAt before.state s → DeskAnswers asks before text out after
      → (end : Option Ran) × Answers config asks (place s before.context) text out (place end after.context) × IsAt after.state end
  both before s text out after at p =
      let r = p.1 s at.1 in
      (r.0, rw (at.0) at (r.1), (p.0 ∙ at.0, r.2))

  bad : (here : Place ScriptDesk C) (s : Option Ran) (text : List ℕ) → IsAt here.state s → DeskRefuses here text → Refuses (place s here.context) text
  bad here s text at p = p s at.1

  -- what a desk before the registry is opened does with a script
  pub runs : (limits : Limits) → limits ≡ script_limits → (before after : Place ScriptDesk C) (streams : Streams) (result : Result (Unit {0}) ScriptFault) (out : List ℕ)
      → before.state.config ≡ config → before.state.book ≡ None → Outcome limits (DeskAnswers asks) DeskRefuses before after streams result out
      → ScriptRuns config asks before.context after.context streams result out
  runs limits are before after streams result out same closed p =
      let q = subst (λ (l : Limits). Outcome l (DeskAnswers asks) DeskRefuses before after streams result out) are p in
      outcome script_limits (DeskAnswers asks) DeskRefuses (Answers config asks) Refuses IsAt both bad before after None streams result out (same, subst (λ b. HoldsRun b None) (sym closed) tt) q

  -- where it was answered whole, the desk keeps the account of its run
  pub leaves : (limits : Limits) → limits ≡ script_limits → (before after : Place ScriptDesk C) (streams : Streams) (out : List ℕ) → before.state.config ≡ config → before.state.book ≡ None
      → Outcome limits (DeskAnswers asks) DeskRefuses before after streams (Ok tt) out
      → Leaves config asks before.context after.context streams (Ok after.state) out
  leaves limits are before after streams out same closed p =
      let q = subst (λ (l : Limits). Outcome l (DeskAnswers asks) DeskRefuses before after streams (Ok tt) out) are p in
      let r = printed script_limits (DeskAnswers asks) DeskRefuses (Answers config asks) Refuses IsAt both bad before None (lines_of streams.read) out after (same, subst (λ b. HoldsRun b None) (sym closed) tt) q.2 in
      (r.0, (q.0, q.1, r.1), r.2.1)

  -- a desk that a script left let it end so
  pub left_so : (d : ScriptDesk) (x x' : C) (streams : Streams) (out : List ℕ) → Leaves config asks x x' streams (Ok d) out → ScriptRuns config asks x x' streams (Ok tt) out
  left_so d x x' streams out leaves = (leaves.0, leaves.1)

  -- and the same script may end for want of memory, once its lines are answered
  pub without_memory : (x x' : C) (streams : Streams) (out : List ℕ) (end : Option Ran)
      → Outcome script_limits (Answers config asks) Refuses (place None x) (place end x') streams (Ok tt) out
      → ScriptRuns config asks x x' streams (Err OutOfMemory) out
  without_memory x x' streams out end whole =
      let lines = lines_of streams.read in
      (end, (streams.read, inr (refl, whole.0, whole.1), (length lines, omega arith, place end x', subst (λ l. Printed script_limits (Answers config asks) (place None x) l out (place end x')) (sym (take-length lines)) whole.2)))
