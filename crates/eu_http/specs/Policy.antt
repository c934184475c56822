-- Which requests a server takes, whatever they ask
use Rattle.std.specs.Prelude.{ℕ, Bool, false, not, ◌&&◌, ◌||◌, List, Option, Some, None, String, bytes_eq, codes, length, nat_lt, string_bytes}
use Rattle.std.specs.List.{list_any}
use Rattle.std.specs.declared.alloc.Global.{Global}
use Rattle.eu_framing.specs.declared.request.Request.{Request}
use Rattle.eu_framing.specs.Message as target
use Rattle.eu_routes.specs.Table.{is_batch}
use Rattle.eu_routes.specs.Table as table
use Rattle.eu_http.specs.declared.policy.Policy.{Policy}

-- the origin is the one that is allowed, byte by byte
abbrev pub is_allowed : Option (String Global) → List ℕ → Bool
is_allowed None origin = false
is_allowed (Some allowed) origin = bytes_eq origin (string_bytes allowed)

-- a browser sent the request for a page that may not ask: one of its Origin fields isn't the origin that is allowed
-- (RFC 6454, section 7; the Fetch standard)
abbrev pub is_cross_site : Policy → Request → Bool
is_cross_site policy request = list_any (λ o. not (is_allowed policy.allowed_origin o.items)) request.origins.items

-- only peers send the request: it calls itself replicated, or it is a batch
abbrev pub is_of_peer : Request → Bool
is_of_peer request = request.replicated || is_batch (string_bytes request.method) (target.path_of (string_bytes request.target))

-- the request asks for a listing
abbrev pub is_listing : Request → Bool
is_listing request = table.is_listing (string_bytes request.method) (target.path_of (string_bytes request.target))

-- the policy forbids the request
unfoldable pub forbids : Policy → Request → Bool
forbids policy request =
    is_cross_site policy request || (not policy.accepts_peers && is_of_peer request) || (not policy.lists && is_listing request)

-- its body is longer than the policy takes; but a HEAD asks nothing, and its response has no content (RFC 9110, section 9.3.2)
abbrev pub is_too_long : Policy → Request → Bool
is_too_long policy request = not (bytes_eq (string_bytes request.method) (codes "HEAD")) && nat_lt policy.most_body (length request.body.items)
