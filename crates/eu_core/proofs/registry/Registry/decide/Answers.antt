use Rattle.std.proofs.Common.{◌≡◌, Some, ap, sym, subst, ◌∙◌}
use Rattle.eu_model.specs.declared.commands.Command.TheVariants.{Cancel, SetStatus, UnsetStatus}
use Rattle.eu_model.specs.Server.{key_of}
use Rattle.eu_core.specs.Decided.{Decides}
use Rattle.eu_core.proofs.registry.Registry.decide.Goals as goal

pub returns-in-SetStatus-clause-decides : goal.returns-in-SetStatus-clause-decides
returns-in-SetStatus-clause-decides c =
    let i = c.in-SetStatus in
    let keys : Some i.key ≡ Some c.args.key.now = sym (ap key_of i.is) ∙ c.requires.key in
    let key : i.key ≡ c.args.key.now = cc in
    subst (λ x. Decides c.args.self.now x c.args.moment c.args.key.now c.status_setting.result)
    (ap (λ k. SetStatus k i.status i.last_dirty i.replicated) (sym key) ∙ sym i.is) (c.status_setting.ensures i.replicated)

pub returns-in-Cancel-clause-decides : goal.returns-in-Cancel-clause-decides
returns-in-Cancel-clause-decides c =
    let i = c.in-Cancel in
    let keys : Some i.key ≡ Some c.args.key.now = sym (ap key_of i.is) ∙ c.requires.key in
    let key : i.key ≡ c.args.key.now = cc in
    subst (λ x. Decides c.args.self.now x c.args.moment c.args.key.now c.cancellation.result)
    (ap (λ k. Cancel k i.replicated) (sym key) ∙ sym i.is) (c.cancellation.ensures.decides i.replicated c.args.moment)

pub returns-in-UnsetStatus-clause-decides : goal.returns-in-UnsetStatus-clause-decides
returns-in-UnsetStatus-clause-decides c =
    let i = c.in-UnsetStatus in
    let keys : Some i.key ≡ Some c.args.key.now = sym (ap key_of i.is) ∙ c.requires.key in
    let key : i.key ≡ c.args.key.now = cc in
    subst (λ x. Decides c.args.self.now x c.args.moment c.args.key.now c.status_unsetting.result)
    (ap (λ k. UnsetStatus k i.status i.last_dirty i.replicated) (sym key) ∙ sym i.is) (c.status_unsetting.ensures.decides i.replicated)
