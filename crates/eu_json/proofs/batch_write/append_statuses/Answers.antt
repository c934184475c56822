use Rattle.std.proofs.Common.{[], ◌++◌, codes, decimal, sym, ap, ◌∙◌, append-nil}
use Rattle.json.specs.Print.{quoted}
use Rattle.serde_json.specs.Data.{string}
use Rattle.eu_base.specs.Values.{status_name}
use Rattle.eu_text.specs.Text.{led_member}
use Rattle.eu_json.proofs.LeadLemmas.{led_value}
use Rattle.eu_json.proofs.TextLemmas.{lead_lastDirtyTimestamp, lead_overriddenStatus, lead_status}
use Rattle.eu_json.proofs.batch_write.append_statuses.Goals as goal

pub returns : goal.returns
returns c =
    let i = c.args.instance.now in
    let o = c.args.out.now.items in
    let k1 = codes "lastDirtyTimestamp" in
    let k2 = codes "overriddenStatus" in
    let d1 = string (decimal i.last_dirty) in
    let d2 = string (status_name i.overridden) in
    let lead1 = codes ",\"lastDirtyTimestamp\":" in
    let lead2 = codes ",\"overriddenStatus\":" in
    let lead3 = codes ",\"status\":" in
    let v1 = quoted c.format-stamp.result.now in
    let v2 = quoted c.name.result.now in
    let v3 = quoted c.name-2.result.now in
    let end = lead3 ++ (v3 ++ []) in
    let middle = lead2 ++ (v2 ++ end) in
    let stamp = ap quoted c.format-stamp.ensures.text ∙ ap (λ n. quoted (decimal n)) (c.value.ensures.value ∙ c.last_dirty.ensures) in
    let first = led_value k1 lead1 v1 d1 lead_lastDirtyTimestamp stamp middle in
    let second = led_value k2 lead2 v2 d2 lead_overriddenStatus (ap quoted (c.name.ensures ∙ ap status_name c.overridden.ensures)) end in
    let third = led_value (codes "status") lead3 v3 (string (status_name c.args.status)) lead_status (ap quoted c.name-2.ensures) [] in
    sym (append-nil _) ∙ c.in_ok-append_led_text-3.ensures [] ∙ c.in_ok-append_led_text-2.ensures end ∙ c.in_ok-append_led_text.ensures middle
    ∙ ap (λ s. o ++ s) (first ∙ ap (λ s. led_member k1 d1 ++ s) (second ∙ ap (λ s. led_member k2 d2 ++ s) third))
