use Rattle.std.proofs.Common.{◌++◌, codes, ap, ◌∙◌, append_assoc}
use Rattle.serde_json.specs.Data.{object, string, member}
use Rattle.serde_json.specs.Written.{compact_text}
use Rattle.eu_text.specs.Text.{led}
use Rattle.eu_json.specs.Batch.{instance_members}
use Rattle.eu_json.proofs.LeadLemmas.{task_text}
use Rattle.eu_json.proofs.batch_write.append_task.Goals as goal

pub returns : goal.returns
returns c =
    let o = c.args.out.now.items in
    let t = c.args.task.now in
    let ms = instance_members t.action t.status t.instance in
    let end = codes "}" in
    let parts = c.in_ok-extend_from_slice.ensures.items ∙ ap (λ s. s ++ end) c.in_ok-append_task_parts.ensures ∙ append_assoc c.append_led_text-3.new.out.items (led ms) end in
    parts ∙ c.in_ok-append_led_text-3.ensures _ ∙ c.in_ok-append_led_text-2.ensures _ ∙ c.in_ok-append_led_text.ensures _
    ∙ ap (λ s. o ++ s) (task_text c.name.result.now c.as_str.result.now c.as_str-2.result.now ms)
    ∙ (λ e. o ++ compact_text (object (member (codes "action") (string (c.name.ensures e)) (member (codes "appName") (string (c.as_str.ensures.value e)) (member (codes "id") (string (c.as_str-2.ensures.value e)) ms)))))
