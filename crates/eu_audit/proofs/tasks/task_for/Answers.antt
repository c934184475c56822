use Rattle.std.proofs.Common.{◌≡◌, ℕ, sym, subst}
use Rattle.std.specs.Prelude.{IfOk, Option}
use Rattle.std.specs.Option.{option_copied}
use Rattle.eu_base.specs.declared.statuses.Status.{Status}
use Rattle.eu_base.specs.declared.tasks.Task.{Task}
use Rattle.eu_model.specs.declared.commands.Command.{Command}
use Rattle.eu_model.specs.declared.commands.Command.TheVariants.{Renew, SetStatus, UnsetStatus}
use Rattle.eu_model.specs.Server.{task_for}
use Rattle.eu_audit.proofs.JudgeLemmas.{of_any}
use Rattle.eu_audit.proofs.tasks.task_for.Goals as goal

pub returns-in-Renew : goal.returns-in-Renew
returns-in-Renew c =
    let k = c.in-Renew.key in
    let is : Command → Option Task → Type 0 = λ command t. t ≡ task_for command c.args.moment c.args.reply.now (option_copied c.args.held) in
    subst (λ command. IfOk c.task_of_renewal.result (is command)) (sym c.in-Renew.is)
    (of_any (λ overridden. is (Renew k c.in-Renew.last_dirty overridden c.in-Renew.replicated)) c.in-Renew.overridden c.task_of_renewal.result
    (of_any (λ last_dirty t. (overridden : Option Status) → is (Renew k last_dirty overridden c.in-Renew.replicated) t) c.in-Renew.last_dirty c.task_of_renewal.result c.task_of_renewal.ensures))

pub returns-in-SetStatus : goal.returns-in-SetStatus
returns-in-SetStatus c =
    let k = c.in-SetStatus.key in
    let is : Command → Option Task → Type 0 = λ command t. t ≡ task_for command c.args.moment c.args.reply.now (option_copied c.args.held) in
    subst (λ command. IfOk c.task_of_status.result (is command)) (sym c.in-SetStatus.is)
    (of_any (λ last_dirty. is (SetStatus k c.in-SetStatus.status last_dirty c.in-SetStatus.replicated)) c.in-SetStatus.last_dirty c.task_of_status.result c.task_of_status.ensures)

pub returns-in-UnsetStatus : goal.returns-in-UnsetStatus
returns-in-UnsetStatus c =
    let k = c.in-UnsetStatus.key in
    let is : Command → Option Task → Type 0 = λ command t. t ≡ task_for command c.args.moment c.args.reply.now (option_copied c.args.held) in
    subst (λ command. IfOk c.task_of_unset.result (is command)) (sym c.in-UnsetStatus.is)
    (of_any (λ last_dirty. is (UnsetStatus k c.in-UnsetStatus.status last_dirty c.in-UnsetStatus.replicated)) c.in-UnsetStatus.last_dirty c.task_of_unset.result
    (of_any (λ suggested t. (last_dirty : Option ℕ) → is (UnsetStatus k suggested last_dirty c.in-UnsetStatus.replicated) t) c.in-UnsetStatus.status c.task_of_unset.result c.task_of_unset.ensures))
