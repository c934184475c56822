use Rattle.std.proofs.Common.{ap}
use Rattle.eu_http.specs.Response.{Response, Json}
use Rattle.eu_http.proofs.TextLemmas.{behind}
use Rattle.eu_http.proofs.response.json.Goals as goal

pub returns : goal.returns
returns c room text len is = ap (λ t. let r : Response = record { status = c.args.status; content = Json t } in r) (behind 128 room text c.args.bytes.items len is)
