use Rattle.std.proofs.Common.{Some, None, codes, refl, ap, ◌++◌, ◌∙◌}
use Rattle.serde_json.specs.Written.{compact_text}
use Rattle.eu_base.specs.declared.tasks.Action.TheVariants.{Heartbeat}
use Rattle.eu_text.specs.Text.{led}
use Rattle.eu_json.specs.Batch.{instance_members}
use Rattle.eu_json.specs.Tree.{instance_tree}
use Rattle.eu_json.proofs.LeadLemmas.{led_value, lead_info}
use Rattle.eu_json.proofs.batch_write.append_registration.Goals as goal

pub returns : goal.returns
returns c =
    let i = c.args.instance.now in
    let d = instance_tree i None in
    let rest = led (instance_members Heartbeat (Some c.args.status) (Some i)) in
    c.in_ok-append_statuses.ensures ∙ c.in_ok-append_info.ensures rest
    ∙ ap (λ s. c.args.out.now.items ++ s) (led_value (codes "instanceInfo") (codes ",\"instanceInfo\":") (compact_text d) d lead_info refl rest)
