use Rattle.std.proofs.Common.{◌≡◌, refl}
use Rattle.std.specs.Fmt.{digits}
use Rattle.eu_http.proofs.text.last_text.Goals as goal

pub returns-in-OK : goal.returns-in-OK
unfolding digits
returns-in-OK c = let is : c.args.status ≡ 200 = cc in rw is refl

pub returns-in-NO_CONTENT : goal.returns-in-NO_CONTENT
unfolding digits
returns-in-NO_CONTENT c = let is : c.args.status ≡ 204 = cc in rw is refl

pub returns-in-NOT_FOUND : goal.returns-in-NOT_FOUND
unfolding digits
returns-in-NOT_FOUND c = let is : c.args.status ≡ 404 = cc in rw is refl
