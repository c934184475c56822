use Rattle.std.proofs.Common.{◌≡◌, ◌∙◌, true, Err, Ok, ap, string_bytes, subst}
use mathlib.Core.Logic.{inr}
use Rattle.eu_framing.specs.Message as target
use Rattle.eu_routes.specs.Path.{IsUncoded}
use Rattle.eu_routes.specs.Table.{needs_memory, resource_of, route_of, IsKnown}
use Rattle.eu_http.proofs.AskLemmas.{asked, not_json, path_in, query_in}
use Rattle.eu_http.proofs.requests.asks_by_route.Goals as goal

pub returns-in-Ok-clause-memory : goal.returns-in-Ok-clause-memory
returns-in-Ok-clause-memory c =
    let request = c.args.request.now in
    let is : route_of (string_bytes request.method) (target.path_of (string_bytes request.target)) (query_in request) request.replicated ≡ Ok c.in-Ok.route =
    rw (← c.deref.ensures, ← c.parts.ensures.path, ← c.parts.ensures.query) c.in-Ok.ensures.said in
    λ short. asked request c.in-Ok.route is (c.asks_for.ensures.memory short)

pub returns-in-Err-OutOfMemory-clause-said : goal.returns-in-Err-OutOfMemory-clause-said
returns-in-Err-OutOfMemory-clause-said c =
    let request = c.args.request.now in
    let lacks = c.lacks_text.ensures.yes c.if-lacks_text.true in
    let short = c.in-Err-OutOfMemory.is ∙ ap Err c.in-Err-OutOfMemory.field-0-is in
    let known : IsKnown (resource_of (path_in request)) (string_bytes request.method) (path_in request) =
    rw (← c.deref.ensures, ← c.parts.ensures.path) (c.find.ensures.memory short) in
    let needs : needs_memory (resource_of (path_in request)) ≡ true = rw (← c.parts.ensures.path) (c.find.ensures.frugal short) in
    inr (not_json request c.args.moment lacks.0 (subst IsUncoded c.parts.ensures.path lacks.1.0) lacks.1.1 known needs)
