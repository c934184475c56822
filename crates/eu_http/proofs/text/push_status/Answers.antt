use Rattle.std.proofs.Common.{◌≡◌}
use Rattle.std.specs.Fmt.{digits}
use Rattle.eu_http.proofs.text.push_status.Goals as goal

pub returns-in_ok-push_str-in-OK : goal.returns-in_ok-push_str-in-OK
unfolding digits
returns-in_ok-push_str-in-OK c = let is : c.args.status ≡ 200 = cc in rw is c.in_ok-push_str-in-OK.ensures.bytes
