use Rattle.std.proofs.Common.{rules, ◌≡◌, append_assoc}
use Rattle.eu_base.specs.Values.{status_name}
use Rattle.eu_admin.specs.Apps.{instance_row, left, overridden_name, silence}
use Rattle.eu_admin.proofs.apps.push_instance.Goals as goal

pub returns : goal.returns
unfolding instance_row
returns c =
    let l = c.args.listed.now in
    let id : c.as_str.result.now ≡ l.instance.key.id = search rules in
    let status : c.name.result.now ≡ status_name l.instance.status = search rules in
    let over : c.overridden_name.result.now ≡ overridden_name l.instance.overridden = search rules in
    let quiet : c.silence.result ≡ silence l c.args.now = search rules in
    let held : c.left.result ≡ left l c.args.now = search rules in
    simp (c.in_ok-push_numbers.ensures, c.in_ok-push_cell-2.ensures, c.in_ok-push_cell.ensures, c.in_ok-push_id.ensures, id, status, over, quiet, held, append_assoc)
