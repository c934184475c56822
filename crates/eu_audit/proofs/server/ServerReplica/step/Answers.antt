use Rattle.std.proofs.Common.{sym, subst}
use Rattle.std.specs.Prelude.{IfOk}
use Rattle.eu_audit.specs.PlainRuns.{PlainServerStep}
use Rattle.eu_audit.specs.Verdict.{Judged}
use Rattle.eu_audit.proofs.QueueLemmas.{is_queued}
use Rattle.eu_audit.proofs.server.ServerReplica.step.Goals as goal

pub returns-in-Drain : goal.returns-in-Drain
returns-in-Drain c =
    subst (λ command. IfOk c.drain.result (Judged (PlainServerStep c.args.self command c.args.entry.now.moment c.args.entry.now.reply))) (sym c.in-Drain.is) c.drain.ensures

pub returns-in-Landed : goal.returns-in-Landed
returns-in-Landed c =
    subst (λ command. IfOk c.land.result (Judged (PlainServerStep c.args.self command c.args.entry.now.moment c.args.entry.now.reply))) (sym c.in-Landed.is) c.land.ensures

pub returns-in-Lost : goal.returns-in-Lost
returns-in-Lost c =
    subst (λ command. IfOk c.lose.result (Judged (PlainServerStep c.args.self command c.args.entry.now.moment c.args.entry.now.reply))) (sym c.in-Lost.is) c.lose.ensures

pub returns-in_default : goal.returns-in_default
returns-in_default c =
    let e = c.args.entry.now in
    subst (λ leads. IfOk c.step_registry.result (Judged leads)) (is_queued c.args.self e.command e.moment e.reply c.in_default.not-Drain c.in_default.not-Landed c.in_default.not-Lost) c.step_registry.ensures
