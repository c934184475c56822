-- What is known of a path and a method from which a route follows
use mathlib.Core.Logic.{inl, inr}
use Rattle.std.proofs.Common.{◌≡◌, ◌⊎◌, ⊎_elim, Bool, Result, ℕ, true, false, List, [], ◌∷◌, Ok, Err, IsOk, Option, Some, None, refl, sym, ap, subst, codes, true≢false, arith}
use Rattle.std.proofs.lemmas.Slice.Eq.{bytes_eq-Decides}
use Rattle.std.specs.Prelude.{if◌then◌else◌}
use Rattle.std.proofs.lemmas.Str.{IsUtf8-from_ascii}
use Rattle.std.proofs.lemmas.Str.Ascii.{IsAscii-cons, IsAscii-nil}
use Rattle.std.specs.Str.{bytes_eq, IsAscii, IsUtf8}
use Rattle.percent_encoding.specs.Percent.{percent_decode}
use Rattle.eu_routes.proofs.PathLemmas.{utf8_text}
use Rattle.eu_base.specs.declared.faults.Fault.{Fault}
use Rattle.eu_base.specs.declared.faults.Fault.TheVariants.{NoRoute}
use Rattle.eu_base.specs.Gives.{◌>>=◌}
use Rattle.eu_routes.specs.declared.asks.Route.{Route}
use Rattle.eu_routes.specs.declared.asks.Route.TheVariants as route
use Rattle.eu_routes.specs.declared.table.Resource.{Resource}
use Rattle.eu_routes.specs.declared.table.Resource.TheVariants as resource
use Rattle.eu_routes.specs.Path.{app_at, key_at, last_segment, parent, app_of, as_name, IsUncoded}
use Rattle.eu_routes.specs.Table.{ask_at, applications_ask, application_ask, batch_ask, config_ask, lease_ask, listing_ask, page_ask, renewal_ask, setting_ask, status_ask, unsetting_ask, IsKnown, needs_memory}

-- where there is a value, a choice gives it on the one side or on the other
chosen : {A : Type 0} (b : Bool) (x y : Result A Fault) (a : A) → (if b then x else y) ≡ Ok a → ((b ≡ true) × (x ≡ Ok a)) ⊎ ((b ≡ false) × (y ≡ Ok a))
chosen true x y a e = inl (refl, e)
chosen false x y a e = inr (refl, e)

-- or there is but one
only : {A : Type 0} (b : Bool) (x : Result A Fault) (a : A) → (if b then x else Err NoRoute) ≡ Ok a → (b ≡ true) × (x ≡ Ok a)
only true x a e = (refl, e)
only false x a e = absurd cc

-- what follows a value follows it only where it is there
before : {A B : Type 0} (r : Result A Fault) (f : A → Result B Fault) (b : B) → (r >>= f) ≡ Ok b → IsOk r
before (Ok a) f b e = refl
before (Err g) f b e = absurd cc

abbrev value_or : {A : Type 0} → A → Result A Fault → A
value_or other (Ok a) = a
value_or other (Err f) = other

-- equal values were given
ok_same : {A : Type 0} (a b : A) → ◌≡◌ {A = Result A Fault} (Ok a) (Ok b) → a ≡ b
ok_same a b e = ap (value_or a) e

delta_stands : percent_decode (codes "delta") ≡ codes "delta"
unfolding percent_decode
delta_stands = refl

delta_ascii : IsAscii (codes "delta")
delta_ascii =
    IsAscii-cons 100 (101 ∷ 108 ∷ 116 ∷ 97 ∷ []) (omega arith)
    (IsAscii-cons 101 (108 ∷ 116 ∷ 97 ∷ []) (omega arith)
    (IsAscii-cons 108 (116 ∷ 97 ∷ []) (omega arith)
    (IsAscii-cons 116 (97 ∷ []) (omega arith)
    (IsAscii-cons 97 [] (omega arith) IsAscii-nil))))

delta_is_named : IsOk (app_at (codes "delta"))
unfolding app_at app_of as_name
delta_is_named =
    let text = utf8_text (codes "delta") (codes "delta") (sym delta_stands) (subst IsUtf8 (sym delta_stands) (IsUtf8-from_ascii _ delta_ascii)) in
    rw text refl

listed : (segment : List ℕ) (named : Route) → listing_ask segment ≡ Ok named → IsOk (app_at segment)
unfolding listing_ask
listed segment named e =
    ⊎_elim
    (λ l. subst (λ s. IsOk (app_at s)) (sym ((bytes_eq-Decides segment (codes "delta")).0 l.0)) delta_is_named)
    (λ l. before (app_at segment) _ named l.1)
    (chosen (bytes_eq segment (codes "delta")) _ _ named e)

of_application : (method path : List ℕ) (named : Route) → application_ask method path ≡ Ok named → IsKnown (Some resource.Application) method path
unfolding application_ask
of_application method path named e =
    ⊎_elim
    (λ l. (rw l.0 refl, λ _. listed (last_segment path) named l.1))
    (λ l. let p = only (bytes_eq method (codes "POST")) _ named l.1 in (rw (l.0, p.0) refl, λ _. before (app_at (last_segment path)) _ named p.1))
    (chosen (bytes_eq method (codes "GET")) _ _ named e)

of_lease : (method path query : List ℕ) (replicated : Bool) (named : Route) → lease_ask method path query replicated ≡ Ok named → IsKnown (Some resource.Lease) method path
unfolding lease_ask renewal_ask
of_lease method path query replicated named e =
    ⊎_elim
    (λ l. (rw l.0 refl, λ _. before (key_at path) _ named l.1))
    (λ l.
    ⊎_elim
    (λ m. (rw (l.0, m.0) refl, λ _. before (key_at path) _ named m.1))
    (λ m. let p = only (bytes_eq method (codes "DELETE")) _ named m.1 in (rw (l.0, m.0, p.0) refl, λ _. before (key_at path) _ named p.1))
    (chosen (bytes_eq method (codes "PUT")) _ _ named l.1))
    (chosen (bytes_eq method (codes "GET")) _ _ named e)

of_status : (method path query : List ℕ) (replicated : Bool) (named : Route) → status_ask method path query replicated ≡ Ok named → IsKnown (Some resource.LeaseStatus) method path
unfolding status_ask setting_ask unsetting_ask
of_status method path query replicated named e =
    ⊎_elim
    (λ l. (rw l.0 refl, λ _. before (key_at (parent path)) _ named l.1))
    (λ l. let p = only (bytes_eq method (codes "DELETE")) _ named l.1 in (rw (l.0, p.0) refl, λ _. before (key_at (parent path)) _ named p.1))
    (chosen (bytes_eq method (codes "PUT")) _ _ named e)

-- where a route follows, there is such a resource with such a method, and its names are names
pub known : (r : Option Resource) (method path query : List ℕ) (replicated : Bool) (named : Route) → ask_at r method path query replicated ≡ Ok named → IsKnown r method path
unfolding applications_ask batch_ask page_ask config_ask
known None method path query replicated named e = absurd cc
known (Some resource.Applications) method path query replicated named e = ((only (bytes_eq method (codes "GET")) _ named e).0, λ _. tt)
known (Some resource.Application) method path query replicated named e = of_application method path named e
known (Some resource.Lease) method path query replicated named e = of_lease method path query replicated named e
known (Some resource.LeaseStatus) method path query replicated named e = of_status method path query replicated named e
known (Some resource.Batch) method path query replicated named e = ((only (bytes_eq method (codes "POST")) _ named e).0, λ _. tt)
known (Some resource.StatusPage) method path query replicated named e = ((only (bytes_eq method (codes "GET")) _ named e).0, λ _. tt)
known (Some resource.Config) method path query replicated named e = ((only (bytes_eq method (codes "PUT")) _ named e).0, λ _. tt)

-- ---- POST

registers : (r : Result (List ℕ) Fault) (named : Route) → (r >>= λ app. Ok (route.Register app)) ≡ Ok named → (app : List ℕ) × (named ≡ route.Register app)
registers (Ok app) named e = (app, ok_same _ _ (sym e))
registers (Err f) named e = absurd cc

-- a POST registers, or is a batch
pub posted : (r : Option Resource) (path query : List ℕ) (replicated : Bool) (named : Route) → ask_at r (codes "POST") path query replicated ≡ Ok named
    → ((app : List ℕ) × (named ≡ route.Register app)) ⊎ (named ≡ route.Batch)
unfolding applications_ask application_ask lease_ask status_ask batch_ask page_ask config_ask
posted None path query replicated named e = absurd cc
posted (Some resource.Applications) path query replicated named e = absurd cc
posted (Some resource.Application) path query replicated named e = inl (registers (app_at (last_segment path)) named e)
posted (Some resource.Lease) path query replicated named e = absurd cc
posted (Some resource.LeaseStatus) path query replicated named e = absurd cc
posted (Some resource.Batch) path query replicated named e = inr (ok_same _ _ (sym e))
posted (Some resource.StatusPage) path query replicated named e = absurd cc
posted (Some resource.Config) path query replicated named e = absurd cc

there : {A : Type 0} (r : Result A Fault) → IsOk r → (a : A) × (r ≡ Ok a)
there (Ok a) is = (a, refl)
there (Err f) is = absurd (true≢false (sym is))

follows : (r : Result (List ℕ) Fault) (app : List ℕ) → r ≡ Ok app → (r >>= λ a. Ok (route.Register a)) ≡ Ok (route.Register app)
follows r app is = rw is refl

-- a POST that needs memory, in whose path nothing is encoded, registers
pub registered : (r : Option Resource) (path query : List ℕ) (replicated : Bool) → IsKnown r (codes "POST") path → needs_memory r ≡ true → IsUncoded path
    → (app : List ℕ) × (ask_at r (codes "POST") path query replicated ≡ Ok (route.Register app))
unfolding application_ask
registered None path query replicated is needs uncoded = absurd is
registered (Some resource.Applications) path query replicated is needs uncoded = absurd (true≢false (sym needs))
registered (Some resource.Application) path query replicated is needs uncoded =
    let app = there (app_at (last_segment path)) (is.1 uncoded) in (app.0, follows (app_at (last_segment path)) app.0 app.1)
registered (Some resource.Lease) path query replicated is needs uncoded = absurd (true≢false (sym is.0))
registered (Some resource.LeaseStatus) path query replicated is needs uncoded = absurd (true≢false (sym is.0))
registered (Some resource.Batch) path query replicated is needs uncoded = absurd (true≢false (sym needs))
registered (Some resource.StatusPage) path query replicated is needs uncoded = absurd (true≢false (sym needs))
registered (Some resource.Config) path query replicated is needs uncoded = absurd (true≢false (sym is.0))
