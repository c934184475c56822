-- What a request asks of the registry
use Rattle.std.specs.Prelude.{◌≡◌, ◌≢◌, ℕ, Bool, true, false, List, [], ◌∷◌, codes, Option, Some, None, Result, Ok, Err, map, if◌then◌else◌, string_bytes}
use Rattle.std.specs.Str.{is_utf8}
use Rattle.eu_base.specs.declared.faults.Fault.{Fault}
use Rattle.eu_base.specs.declared.faults.Fault.TheVariants.{NotJson, BadBatch, BodyTooLong}
use Rattle.eu_base.specs.declared.instances.Instance.{Instance}
use Rattle.eu_model.specs.declared.commands.Command.{Command}
use Rattle.eu_model.specs.declared.commands.Command.TheVariants as command
use Rattle.eu_model.specs.declared.views.Query.TheVariants as query
use Rattle.eu_json.specs.Batch.{batch_of}
use Rattle.eu_json.specs.Reading.{instance_of}
use Rattle.eu_routes.specs.declared.asks.Route.{Route}
use Rattle.eu_routes.specs.declared.asks.Route.TheVariants as route
use Rattle.eu_routes.specs.Path.{path_of, IsUncoded}
use Rattle.eu_routes.specs.Table.{resource_of, route_of, IsKnown}
use Rattle.eu_base.specs.Gives.{◌>>=◌, Gives, result_map}
use Rattle.eu_framing.specs.declared.request.Request.{Request}
use Rattle.eu_framing.specs.Message as target
use Rattle.eu_model.specs.declared.asks.Ask.{Ask}
use Rattle.eu_model.specs.declared.asks.Ask.TheVariants.{Do, See}
use Rattle.eu_http.specs.declared.exchange.Asked.{Asked}
use Rattle.eu_http.specs.declared.policy.Policy.{Policy}
use Rattle.eu_http.specs.declared.wanted.Wanted.{Wanted}
use Rattle.eu_http.specs.declared.wanted.Wanted.TheVariants as wanted
use Rattle.eu_http.specs.declared.exchange.Asked.TheVariants as asked
use Rattle.eu_http.specs.Policy.{forbids, is_too_long}

-- the instance that a body says, for an application at a moment
abbrev pub instance_in : List ℕ → ℕ → List ℕ → Result Instance Fault
instance_in app moment body = if is_utf8 body then instance_of app moment body else Err NotJson

-- the registration of that instance
abbrev pub registration : List ℕ → Bool → List ℕ → ℕ → Result Command Fault
registration app replicated body moment = instance_in app moment body >>= λ instance. Ok (command.Register instance replicated)

-- the commands that a body says, in their order, at a moment
abbrev pub batch_in : ℕ → List ℕ → Result (List Command) Fault
batch_in moment body = if is_utf8 body then batch_of moment body else Err BadBatch

-- the kind of answer that is wanted, and what is asked, in order
pub record Wants : Type 0 where
  pub wanted : Wanted
  pub asks : List Ask

-- that one command
abbrev pub change : Command → Option Wants
change c = Some (record { wanted = wanted.Change; asks = Do c ∷ [] })

-- each of them
abbrev pub batch_asks : ℕ → List ℕ → Result (Option Wants) Fault
batch_asks moment body = batch_in moment body >>= λ commands. Ok (Some (record { wanted = wanted.Batch; asks = map (λ c. Do c) commands }))

-- what is asked for a route, by a body at a moment; nothing, where it is forbidden. A peer sends every command of a batch, whatever the request says
abbrev pub asks_for : Route → Bool → List ℕ → ℕ → Result (Option Wants) Fault
asks_for (route.Register app) replicated body moment = registration app replicated body moment >>= λ c. Ok (change c)
asks_for (route.Do c) replicated body moment = Ok (change c)
asks_for route.Batch replicated body moment = batch_asks moment body
asks_for route.All replicated body moment = Ok (Some (record { wanted = wanted.All; asks = See query.All ∷ [] }))
asks_for (route.OfApp app) replicated body moment = Ok (Some (record { wanted = wanted.OfApp; asks = See (query.OfApp app) ∷ [] }))
asks_for (route.One key) replicated body moment = Ok (Some (record { wanted = wanted.One; asks = See (query.One key) ∷ [] }))
asks_for route.Delta replicated body moment = Ok None
asks_for route.StatusPage replicated body moment = Ok (Some (record { wanted = wanted.Page; asks = See query.Page ∷ [] }))

-- what a request asks at a moment that the policy takes, or its first fault
abbrev pub asks_by_route : Request → ℕ → Result (Option Wants) Fault
asks_by_route request moment = do
  named ← route_of (string_bytes request.method) (target.path_of (string_bytes request.target)) (target.query_of (string_bytes request.target)) request.replicated
  asks_for named request.replicated request.body.items moment

-- what a request asks at a moment, or its first fault; nothing, where the policy forbids it, whatever it would ask; and a body that is longer than the policy takes
-- is one, whatever it says
abbrev pub asks_of : Policy → Request → ℕ → Result (Option Wants) Fault
asks_of policy request moment =
    if forbids policy request then Ok None else if is_too_long policy request then Err BodyTooLong else asks_by_route request moment

abbrev pub wants_in : Asked → Option Wants
wants_in asked.Forbidden = None
wants_in (asked.Asks wanted asks) = Some (record { wanted = wanted; asks = asks.items })

-- it is what the request asks; where memory ran out, nothing is known
abbrev pub Says : Result Asked Fault → Result (Option Wants) Fault → Type 0
Says result said = Gives (result_map wants_in result) said

-- ---- what is known before any memory is taken

-- a text that isn't empty
abbrev pub IsText : List ℕ → Type 0
IsText body = (is_utf8 body ≡ true) × (body ≢ [])

-- a body that is looked at is one
abbrev pub HasBody : Route → List ℕ → Type 0
HasBody (route.Register app) body = IsText body
HasBody route.Batch body = IsText body
HasBody _ body = Unit {0}

-- There is such a route. Where nothing in the path is encoded, its names are names, and the body of a POST is a text that isn't empty
abbrev pub HasRoute : Request → Type 0
HasRoute request =
    IsKnown (resource_of (path_of (target.path_of (string_bytes request.target)))) (string_bytes request.method) (path_of (target.path_of (string_bytes request.target)))
    × (IsUncoded (target.path_of (string_bytes request.target)) → string_bytes request.method ≡ codes "POST" → IsText request.body.items)

-- the policy takes it, and it has a route
abbrev pub IsAsked : Policy → Request → Type 0
IsAsked policy request = (forbids policy request ≡ false) × (is_too_long policy request ≡ false) × HasRoute request
