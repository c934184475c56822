use Rattle.std.proofs.Common.{◌≡◌, ◌+◌, suc, arith, ◌∷◌, sym, ◌∙◌, subst, drop}
use Rattle.std.proofs.Math.Seq.{drop-cons}
use Rattle.eu_audit.specs.PlainRuns.{PlainServerStep, PlainRun}
use Rattle.eu_audit.specs.Verdict.{Judged}
use Rattle.eu_audit.proofs.OnceLemmas.{run_from}
use Rattle.eu_audit.proofs.auditor.replay.Goals as goal

pub loop-entry-preserved : goal.loop-entry-preserved
loop-entry-preserved c =
    let e = c.entry-item.result in
    let rest = drop (c.loop-entry.entry-index + 1) c.args.entries.now in
    let one : suc c.loop-entry.entry-index ≡ c.loop-entry.entry-index + 1 = omega arith in
    let here = drop-cons c.args.entries.now c.loop-entry.entry-index e c.loop-entry-test.true
    ∙ (λ i. sym c.entry-item.is i ∷ drop (one i) c.args.entries.now) in
    let step : PlainServerStep c.loop-entry.replica e.command e.moment e.reply c.in-Some.next = subst (Judged (PlainServerStep c.loop-entry.replica e.command e.moment e.reply)) c.in-Some.is c.in_ok-next.ensures in
    record {
      whole = λ end.
          let more = run_from e rest c.loop-entry.replica c.in-Some.next end step in
          let all = c.loop-entry.invariant.whole end in (
            λ run. all.0 (subst (λ es. PlainRun c.loop-entry.replica es end) (sym here) (more.0 run)),
            λ run. more.1 (subst (λ es. PlainRun c.loop-entry.replica es end) here (all.1 run)),
          );
    }
