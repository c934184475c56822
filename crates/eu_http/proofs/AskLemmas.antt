-- What a body says
use Rattle.std.proofs.Common.{◌≡◌, ◌⊎◌, ⊎_elim, ℕ, Bool, true, false, true≢false, List, [], ◌∷◌, Result, Ok, Err, OnOk, refl, sym, ap, subst, ◌∙◌, codes, not, length, ◌==◌, string_bytes, if◌then◌else◌}
use Rattle.std.proofs.lemmas.Bool.{false_from_ne_true}
use Rattle.std.proofs.lemmas.Str.{is_utf8-from_IsUtf8, IsUtf8-from_is_utf8}
use Rattle.std.specs.Str.{IsUtf8, is_utf8}
use Rattle.eu_base.specs.declared.faults.Fault.{Fault}
use Rattle.eu_base.specs.declared.faults.Fault.TheVariants.{BadBatch, NotJson}
use Rattle.eu_base.specs.declared.instances.Instance.{Instance}
use Rattle.eu_base.specs.Gives.{Gives, result_map}
use Rattle.eu_framing.specs.declared.request.Request.{Request}
use Rattle.eu_framing.specs.Message as target
use Rattle.eu_json.specs.Batch.{batch_of}
use Rattle.eu_json.specs.Reading.{instance_of}
use Rattle.eu_json.proofs.EmptyLemmas.{nothing_asked, nothing_said}
use Rattle.eu_model.specs.declared.commands.Command.{Command}
use Rattle.eu_routes.specs.declared.asks.Route.{Route}
use Rattle.eu_routes.specs.declared.asks.Route.TheVariants as route
use Rattle.eu_routes.specs.Path.{path_of, IsUncoded}
use Rattle.eu_routes.specs.Table.{ask_at, needs_memory, resource_of, route_of, IsKnown}
use Rattle.eu_routes.proofs.PathLemmas.{uncoded_path}
use Rattle.eu_routes.proofs.RouteLemmas.{known, posted, registered}
use Rattle.eu_http.specs.Asks.{asks_by_route, batch_in, instance_in, HasBody, HasRoute, IsText}

-- a text is read
pub of_text : {A : Type 0} (body : List ℕ) (read other : A) → IsUtf8 body → (if is_utf8 body then read else other) ≡ read
of_text body read other utf8 = rw (is_utf8-from_IsUtf8 body utf8) refl

-- what isn't one is not
pub of_bytes : {A : Type 0} (body : List ℕ) (read other : A) → ¬ (IsUtf8 body) → (if is_utf8 body then read else other) ≡ other
of_bytes body read other bytes = rw (false_from_ne_true (is_utf8 body) (λ yes. bytes (IsUtf8-from_is_utf8 body yes))) refl

-- ---- what is found without memory

pub not_so : (b : Bool) → not b ≡ true → b ≡ false
not_so true e = sym e
not_so false e = refl

pub text_by : (bs : List ℕ) → IsUtf8 bs → (length bs == 0) ≡ false → IsText bs
text_by bs utf8 some = (is_utf8-from_IsUtf8 bs utf8, λ none. true≢false (sym (ap (λ l. length l == 0) none) ∙ some))

pub no_text_of : (bs : List ℕ) → ¬ (IsUtf8 bs) → ¬ (IsText bs)
no_text_of bs bytes = λ text. bytes (IsUtf8-from_is_utf8 bs text.0)

-- ---- bodies that say nothing

-- what is read of a text that may be none, where nothing is read of one without a byte
filled : {A : Type 0} (read : List ℕ → Result A Fault) (f : Fault) (body : List ℕ) (utf8 : Bool) (a : A) → is_utf8 body ≡ utf8 → read [] ≡ Err f → (if utf8 then read body else Err f) ≡ Ok a → IsText body
filled read f [] true a is none e = absurd cc
filled read f (b ∷ body) true a is none e = (is, λ same. cc)
filled read f body false a is none e = absurd cc

unread : {A : Type 0} (read : List ℕ → Result A Fault) (f : Fault) (body : List ℕ) (utf8 : Bool) → is_utf8 body ≡ utf8 → read [] ≡ Err f → ¬ (IsText body) → (if utf8 then read body else Err f) ≡ Err f
unread read f [] true is none other = none
unread read f (b ∷ body) true is none other = absurd (other (is, λ same. cc))
unread read f body false is none other = refl

-- a body that is no text, or is empty, says no instance
pub no_instance : (app : List ℕ) (moment : ℕ) (body : List ℕ) → ¬ (IsText body) → instance_in app moment body ≡ Err NotJson
no_instance app moment body other = unread (instance_of app moment) NotJson body (is_utf8 body) refl (nothing_said app moment) other

-- what says an instance is a text
pub instance_text : (app : List ℕ) (moment : ℕ) (body : List ℕ) (i : Instance) → instance_in app moment body ≡ Ok i → IsText body
instance_text app moment body i is = filled (instance_of app moment) NotJson body (is_utf8 body) i refl (nothing_said app moment) is

-- and so is what says commands
pub batch_text : (moment : ℕ) (body : List ℕ) (cs : List Command) → batch_in moment body ≡ Ok cs → IsText body
batch_text moment body cs is = filled (batch_of moment) BadBatch body (is_utf8 body) cs refl (nothing_asked moment) is

pub text_by_instance : (app : List ℕ) (moment : ℕ) (body : List ℕ) (r : Result Instance Fault) → Gives r (instance_in app moment body) → OnOk r (IsText body)
text_by_instance app moment body (Ok i) said = instance_text app moment body i said
text_by_instance app moment body (Err f) said = tt

pub text_by_batch : {X : Type 0} (items : X → List Command) (moment : ℕ) (body : List ℕ) (r : Result X Fault) → Gives (result_map items r) (batch_in moment body) → OnOk r (IsText body)
text_by_batch items moment body (Ok cs) said = batch_text moment body (items cs) said
text_by_batch items moment body (Err f) said = tt

-- ---- what is known of a request whose memory is short

-- where the body of a POST is looked at, it is a text
posted_text : (named : Route) (body : List ℕ) → ((app : List ℕ) × (named ≡ route.Register app)) ⊎ (named ≡ route.Batch) → HasBody named body → IsText body
posted_text named body which has =
    ⊎_elim (λ r. subst (λ n. HasBody n body) r.1 has) (λ b. subst (λ n. HasBody n body) b has) which

abbrev pub path_in : Request → List ℕ
path_in request = path_of (target.path_of (string_bytes request.target))

abbrev pub query_in : Request → List ℕ
query_in request = target.query_of (string_bytes request.target)

-- where it has a route
pub asked : (request : Request) (named : Route) → route_of (string_bytes request.method) (target.path_of (string_bytes request.target)) (query_in request) request.replicated ≡ Ok named
    → HasBody named request.body.items → HasRoute request
asked request named is has = (
  known (resource_of (path_in request)) (string_bytes request.method) (path_in request) (query_in request) request.replicated named is,
  λ uncoded post.
      posted_text named request.body.items
      (posted (resource_of (path_in request)) (path_in request) (query_in request) request.replicated named (subst (λ m. ask_at (resource_of (path_in request)) m (path_in request) (query_in request) request.replicated ≡ Ok named) post is))
      has,
)

-- where its body is none, a POST that needs memory is told so
pub not_json : (request : Request) (moment : ℕ) → string_bytes request.method ≡ codes "POST" → IsUncoded (target.path_of (string_bytes request.target)) → ¬ (IsText request.body.items)
    → IsKnown (resource_of (path_in request)) (string_bytes request.method) (path_in request) → needs_memory (resource_of (path_in request)) ≡ true → asks_by_route request moment ≡ Err NotJson
not_json request moment post uncoded none is needs =
    let named = registered (resource_of (path_in request)) (path_in request) (query_in request) request.replicated
    (subst (λ m. IsKnown (resource_of (path_in request)) m (path_in request)) post is) needs (uncoded_path _ uncoded) in
    rw (post, named.1, no_instance named.0 moment request.body.items none) refl
