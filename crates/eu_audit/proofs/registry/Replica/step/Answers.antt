use Rattle.std.proofs.Common.{ℕ, sym, subst}
use Rattle.std.specs.Prelude.{IfOk, Option}
use Rattle.eu_model.specs.Plain.{Plain}
use Rattle.eu_model.specs.declared.commands.Command.{Command}
use Rattle.eu_model.specs.declared.commands.Command.TheVariants.{Cancel, SetStatus, UnsetStatus}
use Rattle.eu_model.specs.PlainSteps.{PlainStep}
use Rattle.eu_audit.specs.Verdict.{Judged}
use Rattle.eu_audit.proofs.JudgeLemmas.{of_any}
use Rattle.eu_audit.proofs.registry.Replica.step.Goals as goal

pub returns-in-Cancel : goal.returns-in-Cancel
returns-in-Cancel c =
    let judged : Command → Option Plain → Type 0 = λ command. Judged (PlainStep c.args.self command c.args.entry.now.moment c.args.entry.now.reply) in
    let k = c.in-Cancel.key in
    subst (λ command. IfOk c.cancel.result (judged command)) (sym c.in-Cancel.is)
    (of_any (λ t. Judged (PlainStep c.args.self (Cancel k c.in-Cancel.replicated) t c.args.entry.now.reply)) c.args.entry.now.moment c.cancel.result
    (of_any (λ replicated next. (t : ℕ) → Judged (PlainStep c.args.self (Cancel k replicated) t c.args.entry.now.reply) next) c.in-Cancel.replicated c.cancel.result c.cancel.ensures))

pub returns-in-SetStatus : goal.returns-in-SetStatus
returns-in-SetStatus c =
    let judged : Command → Option Plain → Type 0 = λ command. Judged (PlainStep c.args.self command c.args.entry.now.moment c.args.entry.now.reply) in
    subst (λ command. IfOk c.set_status.result (judged command)) (sym c.in-SetStatus.is)
    (of_any (λ replicated. judged (SetStatus c.in-SetStatus.key c.in-SetStatus.status c.in-SetStatus.last_dirty replicated)) c.in-SetStatus.replicated c.set_status.result c.set_status.ensures)

pub returns-in-UnsetStatus : goal.returns-in-UnsetStatus
returns-in-UnsetStatus c =
    let judged : Command → Option Plain → Type 0 = λ command. Judged (PlainStep c.args.self command c.args.entry.now.moment c.args.entry.now.reply) in
    subst (λ command. IfOk c.unset_status.result (judged command)) (sym c.in-UnsetStatus.is)
    (of_any (λ replicated. judged (UnsetStatus c.in-UnsetStatus.key c.in-UnsetStatus.status c.in-UnsetStatus.last_dirty replicated)) c.in-UnsetStatus.replicated c.unset_status.result c.unset_status.ensures)

pub returns-in-EndMinute : goal.returns-in-EndMinute
returns-in-EndMinute c =
    subst (λ command. Judged (PlainStep c.args.self command c.args.entry.now.moment c.args.entry.now.reply) c.end_minute.result) (sym c.in-EndMinute.is) (c.end_minute.ensures c.args.entry.now.moment)

pub returns-in-Update : goal.returns-in-Update
returns-in-Update c =
    subst (λ command. Judged (PlainStep c.args.self command c.args.entry.now.moment c.args.entry.now.reply) c.update.result) (sym c.in-Update.is) (c.update.ensures c.args.entry.now.moment)

pub returns-in-Reconfigure : goal.returns-in-Reconfigure
returns-in-Reconfigure c =
    subst (λ command. Judged (PlainStep c.args.self command c.args.entry.now.moment c.args.entry.now.reply) c.reconfigure.result) (sym c.in-Reconfigure.is) (c.reconfigure.ensures c.args.entry.now.moment)

pub returns-in-Evict : goal.returns-in-Evict
returns-in-Evict c =
    subst (λ command. Judged (PlainStep c.args.self command c.args.entry.now.moment c.args.entry.now.reply) c.evict.result) (sym c.in-Evict.is) c.evict.ensures
