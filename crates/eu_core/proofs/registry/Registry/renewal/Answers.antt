use Rattle.std.proofs.Common.{◌∙◌, arith}
use Rattle.std.proofs.lemmas.Result.{IfOk-weaker}
use Rattle.eu_core.proofs.RenewLemmas.{renewal_decides, renewal_refused}
use Rattle.eu_core.proofs.registry.Registry.renewal.Goals as goal

pub returns-clause-decides : goal.returns-clause-decides
returns-clause-decides c =
    let a = c.args in
    let e = c.decide_renewal.ensures in
    let context = c.context-context.ensures in
    renewal_decides a.self.now a.key.now a.last_dirty a.overridden a.replicated a.moment c.decide_renewal.result _ _ _ _ c.requires.held (context.row ∙ c.requires.row) context.expected context.rate e.change e.counted e.in_place
    (IfOk-weaker c.decide_renewal.result _ _ (λ d few. omega (arith, few, context.bound)) e.few)

pub returns-clause-refused : goal.returns-clause-refused
returns-clause-refused c =
    let a = c.args in
    let context = c.context-context.ensures in
    renewal_refused a.self.now a.key.now a.last_dirty a.overridden a.replicated a.moment c.decide_renewal.result _ _ _ _ c.requires.held (context.row ∙ c.requires.row) context.expected context.rate c.decide_renewal.ensures.refused
