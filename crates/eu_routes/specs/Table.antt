-- The paths that there are, and where a request goes
use Rattle.std.specs.Prelude.{ℕ, List, [], ◌∷◌, Option, Result, Ok, Err, option_map, codes, ◌≡◌, Bool, true, false, ◌&&◌, ◌||◌, Some, None, IsOk, if◌then◌else◌}
use Rattle.matchit.specs.Rows.{RowsOf}
use Rattle.matchit.specs.Seek.{first}
use Rattle.matchit.specs.Route.{Scan, parse_route}
use Rattle.matchit.specs.Order.{placed}
use Rattle.matchit.specs.Router.{RouteOf, route_from}
use Rattle.matchit.specs.declared.error.InsertError.{InsertError}
use Rattle.eu_routes.specs.declared.table.Resource.{Resource}
use Rattle.std.specs.Option.{ok_or}
use Rattle.std.specs.Str.{bytes_eq}
use Rattle.eu_base.specs.declared.faults.Fault.{Fault}
use Rattle.eu_routes.specs.declared.asks.Route.{Route}
use Rattle.eu_routes.specs.declared.asks.Route.TheVariants.{Register, Do, All, OfApp, One, Delta, Batch, StatusPage}
use Rattle.eu_model.specs.declared.commands.Command.TheVariants.{Renew, Cancel, SetStatus, UnsetStatus, Reconfigure}
use Rattle.eu_base.specs.Gives.{◌>>=◌}
use Rattle.eu_routes.specs.Path.{path_of, last_segment, parent, app_at, key_at, IsUncoded}
use Rattle.eu_routes.specs.Query.{stamp_at, status_at, settings_at}
use Rattle.eu_routes.specs.declared.table.Resource.TheVariants as resource
use Rattle.eu_base.specs.declared.faults.Fault.TheVariants as fault

-- ---- the table of paths, and the resource that a path names

-- the rows of a router, with the row of one path more, if the router's grammar reads that path
abbrev pub with_row : Result Scan InsertError → Resource → RowsOf (RouteOf Resource) → RowsOf (RouteOf Resource)
with_row (Ok s) named rows = placed ((route_from s named).pattern, route_from s named) rows
with_row (Err e) named rows = rows

-- the rows, with those of a list of paths, one after another
unfoldable pub rows_onto : RowsOf (RouteOf Resource) → List (List ℕ × Resource) → RowsOf (RouteOf Resource)
rows_onto rows [] = rows
rows_onto rows (p ∷ ps) = rows_onto (with_row (parse_route p.0) p.1 rows) ps

-- the rows of a router of these paths
abbrev pub rows_for : List (List ℕ × Resource) → RowsOf (RouteOf Resource)
rows_for paths = rows_onto [] paths

-- each resource's path, under both prefixes
unfoldable pub table : List (List ℕ × Resource)
table =
    (codes "/eureka/v2/apps", resource.Applications)
    ∷ (codes "/eureka/v2/apps/{app}", resource.Application)
    ∷ (codes "/eureka/v2/apps/{app}/{id}", resource.Lease)
    ∷ (codes "/eureka/v2/apps/{app}/{id}/status", resource.LeaseStatus)
    ∷ (codes "/eureka/v2/peerreplication/batch", resource.Batch)
    ∷ (codes "/eureka/v2/status", resource.StatusPage)
    ∷ (codes "/eureka/v2/config", resource.Config)
    ∷ (codes "/eureka/apps", resource.Applications)
    ∷ (codes "/eureka/apps/{app}", resource.Application)
    ∷ (codes "/eureka/apps/{app}/{id}", resource.Lease)
    ∷ (codes "/eureka/apps/{app}/{id}/status", resource.LeaseStatus)
    ∷ (codes "/eureka/peerreplication/batch", resource.Batch)
    ∷ (codes "/eureka/status", resource.StatusPage)
    ∷ (codes "/eureka/config", resource.Config)
    ∷ []

-- the resource that a path names, if the table has one for it
abbrev pub resource_of : List ℕ → Option Resource
resource_of path = option_map (λ row. row.value) (first (rows_for table) path)

-- ---- what each method asks of each resource

-- GET apps
unfoldable pub applications_ask : List ℕ → Result Route Fault
applications_ask method = if bytes_eq method (codes "GET") then Ok All else Err fault.NoRoute

-- POST peerreplication/batch
unfoldable pub batch_ask : List ℕ → Result Route Fault
batch_ask method = if bytes_eq method (codes "POST") then Ok Batch else Err fault.NoRoute

-- GET status
unfoldable pub page_ask : List ℕ → Result Route Fault
page_ask method = if bytes_eq method (codes "GET") then Ok StatusPage else Err fault.NoRoute

-- PUT config
unfoldable pub config_ask : List ℕ → List ℕ → Result Route Fault
config_ask method query =
    if bytes_eq method (codes "PUT") then (settings_at query >>= λ settings. Ok (Do (Reconfigure settings)))
    else Err fault.NoRoute

-- an application is asked for, or, where its segment is `delta` as it is written, the changes
unfoldable pub listing_ask : List ℕ → Result Route Fault
listing_ask segment =
    if bytes_eq segment (codes "delta") then Ok Delta
    else do
      app ← app_at segment
      Ok (OfApp app)

-- POST apps/{app}, GET apps/{app}
unfoldable pub application_ask : List ℕ → List ℕ → Result Route Fault
application_ask method path =
    if bytes_eq method (codes "GET") then listing_ask (last_segment path)
    else if bytes_eq method (codes "POST") then (app_at (last_segment path) >>= λ app. Ok (Register app))
    else Err fault.NoRoute

-- the values of a renewal: `lastDirtyTimestamp` and `overriddenstatus`
unfoldable pub renewal_ask : List ℕ → List ℕ → Bool → Result Route Fault
renewal_ask path query replicated = do
  key ← key_at path
  last_dirty ← stamp_at (codes "lastDirtyTimestamp") query
  overridden ← status_at (codes "overriddenstatus") query
  Ok (Do (Renew key last_dirty overridden replicated))

-- GET apps/{app}/{id}, PUT apps/{app}/{id}, DELETE apps/{app}/{id}
unfoldable pub lease_ask : List ℕ → List ℕ → List ℕ → Bool → Result Route Fault
lease_ask method path query replicated =
    if bytes_eq method (codes "GET") then (key_at path >>= λ key. Ok (One key))
    else if bytes_eq method (codes "PUT") then renewal_ask path query replicated
    else if bytes_eq method (codes "DELETE") then (key_at path >>= λ key. Ok (Do (Cancel key replicated)))
    else Err fault.NoRoute

-- the values of a new status: `value`, which is needed, and `lastDirtyTimestamp`
unfoldable pub setting_ask : List ℕ → List ℕ → Bool → Result Route Fault
setting_ask path query replicated = do
  key ← key_at path
  given ← status_at (codes "value") query
  status ← ok_or given fault.BadValue
  last_dirty ← stamp_at (codes "lastDirtyTimestamp") query
  Ok (Do (SetStatus key status last_dirty replicated))

-- the same, where `value` may be absent
unfoldable pub unsetting_ask : List ℕ → List ℕ → Bool → Result Route Fault
unsetting_ask path query replicated = do
  key ← key_at path
  status ← status_at (codes "value") query
  last_dirty ← stamp_at (codes "lastDirtyTimestamp") query
  Ok (Do (UnsetStatus key status last_dirty replicated))

-- PUT apps/{app}/{id}/status, DELETE apps/{app}/{id}/status
unfoldable pub status_ask : List ℕ → List ℕ → List ℕ → Bool → Result Route Fault
status_ask method path query replicated =
    if bytes_eq method (codes "PUT") then setting_ask (parent path) query replicated
    else if bytes_eq method (codes "DELETE") then unsetting_ask (parent path) query replicated
    else Err fault.NoRoute

-- what the method asks of the resource that the path names, if it names one
abbrev pub ask_at : Option Resource → List ℕ → List ℕ → List ℕ → Bool → Result Route Fault
ask_at None method path query replicated = Err fault.NoRoute
ask_at (Some resource.Applications) method path query replicated = applications_ask method
ask_at (Some resource.Application) method path query replicated = application_ask method path
ask_at (Some resource.Lease) method path query replicated = lease_ask method path query replicated
ask_at (Some resource.LeaseStatus) method path query replicated = status_ask method path query replicated
ask_at (Some resource.Batch) method path query replicated = batch_ask method
ask_at (Some resource.StatusPage) method path query replicated = page_ask method
ask_at (Some resource.Config) method path query replicated = config_ask method query

-- what a request of that method, target and query asks for, whether a peer sends it or not
abbrev pub route_of : List ℕ → List ℕ → List ℕ → Bool → Result Route Fault
route_of method target query replicated = ask_at (resource_of (path_of target)) method (path_of target) query replicated

-- ---- what peers send

-- the resource is that of batches
abbrev pub is_for_batches : Option Resource → Bool
is_for_batches None = false
is_for_batches (Some resource.Applications) = false
is_for_batches (Some resource.Application) = false
is_for_batches (Some resource.Lease) = false
is_for_batches (Some resource.LeaseStatus) = false
is_for_batches (Some resource.Batch) = true
is_for_batches (Some resource.StatusPage) = false
is_for_batches (Some resource.Config) = false

-- a request of that method and target is a batch: POST peerreplication/batch
unfoldable pub is_batch : List ℕ → List ℕ → Bool
is_batch method target = bytes_eq method (codes "POST") && is_for_batches (resource_of (path_of target))

-- a resource is one of listings: all applications, one, or the changes
abbrev pub is_for_listings : Option Resource → Bool
is_for_listings (Some resource.Applications) = true
is_for_listings (Some resource.Application) = true
is_for_listings (Some resource.Lease) = false
is_for_listings (Some resource.LeaseStatus) = false
is_for_listings (Some resource.Batch) = false
is_for_listings (Some resource.StatusPage) = false
is_for_listings (Some resource.Config) = false
is_for_listings None = false

-- a request of that method and target asks for a listing: GET apps, apps/{app} or apps/delta
unfoldable pub is_listing : List ℕ → List ℕ → Bool
is_listing method target = bytes_eq method (codes "GET") && is_for_listings (resource_of (path_of target))

-- ---- what is known before any memory is taken

-- the method is one of the resource's
abbrev pub takes : Resource → List ℕ → Bool
takes resource.Applications method = bytes_eq method (codes "GET")
takes resource.Application method = bytes_eq method (codes "GET") || bytes_eq method (codes "POST")
takes resource.Lease method = bytes_eq method (codes "GET") || bytes_eq method (codes "PUT") || bytes_eq method (codes "DELETE")
takes resource.LeaseStatus method = bytes_eq method (codes "PUT") || bytes_eq method (codes "DELETE")
takes resource.Batch method = bytes_eq method (codes "POST")
takes resource.StatusPage method = bytes_eq method (codes "GET")
takes resource.Config method = bytes_eq method (codes "PUT")

-- the segments of the path that are to be names are names
abbrev pub HasNames : Resource → List ℕ → Type 0
HasNames resource.Application path = IsOk (app_at (last_segment path))
HasNames resource.Lease path = IsOk (key_at path)
HasNames resource.LeaseStatus path = IsOk (key_at (parent path))
HasNames _ path = Unit {0}

-- there is such a route; and where nothing in the path is encoded, its names are names
abbrev pub IsKnown : Option Resource → List ℕ → List ℕ → Type 0
IsKnown None method path = ⊥
IsKnown (Some resource) method path = (takes resource method ≡ true) × (IsUncoded path → HasNames resource path)

-- what is asked for of the resource needs memory: a name, or settings
abbrev pub needs_memory : Option Resource → Bool
needs_memory None = false
needs_memory (Some resource.Applications) = false
needs_memory (Some resource.Application) = true
needs_memory (Some resource.Lease) = true
needs_memory (Some resource.LeaseStatus) = true
needs_memory (Some resource.Batch) = false
needs_memory (Some resource.StatusPage) = false
needs_memory (Some resource.Config) = true
