-- Where entries lead from plain data, the listing of all is put together of those of its applications
use Rattle.std.proofs.Common.{◌≡◌, ℕ, true, false, T, cond, List, [], ◌∷◌, map, filter, refl, sym, ap, ◌∙◌, subst}
use Rattle.std.specs.Prelude.{Some, None, replicate}
use Rattle.std.specs.Option.{option_map}
use Rattle.std.specs.FinMap.{entries, entries_sorted, from_entries, get, get-entries, get-from_entries}
use Rattle.std.specs.FinMap.Entries.{same_entries}
use Rattle.eu_base.specs.declared.names.Key.{Key}
use Rattle.eu_base.specs.declared.settings.Config.{Config}
use Rattle.eu_base.specs.Values.{key_cmp, name_eq}
use Rattle.eu_base.proofs.KeyLemmas.{keys_total, keys_exact}
use Rattle.eu_model.specs.declared.commands.Entry.{Entry}
use Rattle.eu_model.specs.declared.states.State.{State}
use Rattle.eu_model.specs.declared.views.Listed.{Listed}
use Rattle.eu_model.specs.Machine.{Machine, Record, last, since}
use Rattle.eu_model.specs.Plain.{plain, listed}
use Rattle.eu_model.specs.Server.{Runs, PlainServer, idle, opened, plain_server}
use Rattle.eu_model.specs.State.{server_of_state}
use Rattle.eu_model.specs.View.{by_key, listing}
use Rattle.eu_model.proofs.ListingLemmas.{filter_true, listing_shown}
use Rattle.eu_model.proofs.MapLemmas.{get-map_values, map_values-empty}
use Rattle.eu_book.proofs.KeyedLemmas.{IsAt, keyed-runs, listings_ascend, plain_back}
use Rattle.eu_json.specs.Tree.{item_tree}
use Rattle.eu_json.specs.ListingLaw.{applications, leases_of}
use Rattle.eu_json.proofs.ApplicationLemmas.{runs_are_of_applications}
use Rattle.eu_session.specs.Listings.{AreByApplication, IsByApplication, OpenedAreByApplication, ResumedAreByApplication}

-- ---- lists

abbrev own_key : Listed → Key
own_key l = l.instance.key

-- the leases of an application are those under its keys
under_keys : (app : List ℕ) (ls : List Listed) → leases_of ls app ≡ map (λ (e : Key × Listed). e.1) (filter (λ (e : Key × Listed). name_eq e.0.app app) (by_key ls))
under_keys app [] = refl
under_keys app (l ∷ ls) =
    let rest = filter (λ (e : Key × Listed). name_eq e.0.app app) (by_key ls) in
    elim (name_eq l.instance.key.app app) as (λ b. cond b (l ∷ leases_of ls app) (leases_of ls app) ≡ map (λ (e : Key × Listed). e.1) (cond b ((l.instance.key, l) ∷ rest) rest)) [
      | true ↦ ap (λ ls. l ∷ ls) (under_keys app ls)
      | false ↦ under_keys app ls
    ]

map-map : (f : List ℕ → List Listed) (apps : List (List ℕ)) → map item_tree (map f apps) ≡ map (λ app. item_tree (f app)) apps
map-map f [] = refl
map-map f (app ∷ apps) = ap (λ ds. item_tree (f app) ∷ ds) (map-map f apps)

-- ---- states

module _ (base : State) (es : List Entry) (q : PlainServer) (run : Runs (server_of_state base) es q) (m : Machine) (is : plain m ≡ q.registry) where
  abbrev all : List Listed
  all = listing None m

  abbrev rows : List (Key × Listed)
  rows = entries q.registry.leases

  -- what is held is what is listed
  all_rows : all ≡ map (λ (e : Key × Listed). e.1) rows
  all_rows = sym (listing_shown None q.registry m is) ∙ ap (map (λ (e : Key × Listed). e.1)) (filter_true rows)

  -- each under its own key
  own_rows : by_key all ≡ rows
  own_rows =
      let ascends = subst T (sym (listings_ascend base es q run m is)) tt in
      let back = ap (λ p. p.leases) (plain_back q.registry (keyed-runs base es q run)) in
      same_entries key_cmp keys_total keys_exact (by_key all) rows ascends (entries_sorted q.registry.leases)
      (λ k. sym (get-from_entries keys_total (by_key all) k) ∙ ap (λ ls. get (from_entries {R = key_cmp} (by_key ls)) k) all_rows ∙ ap (λ held. get held k) back ∙ get-entries q.registry.leases k)

  leases : (app : List ℕ) → leases_of all app ≡ listing (Some app) m
  leases app =
      under_keys app all ∙ ap (λ es. map (λ (e : Key × Listed). e.1) (filter (λ (e : Key × Listed). name_eq e.0.app app) es)) own_rows
      ∙ listing_shown (Some app) q.registry m is

  held : (k : Key) (r : Record) → get m.leases k ≡ Some r → r.instance.key ≡ k
  held k r at =
      let listed_at = ap (λ p. get p.leases k) (sym is) ∙ get-map_values key_cmp listed m.leases k ∙ ap (option_map listed) at in
      subst (IsAt own_key k) listed_at (keyed-runs base es q run k)

  by_application : IsByApplication m
  by_application = record {
    keys = held;
    items =
        ap (map item_tree) (runs_are_of_applications all (listings_ascend base es q run m is)) ∙ map-map (leases_of all) (applications all)
        ∙ (λ i. map (λ app. item_tree (leases app i)) (applications all));
  }

-- ---- runs

-- an opening is plain data without leases
abbrev nothing_held : Config → ℕ → ℕ → State
nothing_held config expected peers =
    record { config = config; expected = expected; leases = []; overrides = []; last = last []; since = since []; previous = None; queues = replicate peers idle }

opened_plain : (config : Config) (expected peers : ℕ) → server_of_state (nothing_held config expected peers) ≡ plain_server (opened config expected peers)
opened_plain config expected peers =
    let p = plain_server (opened config expected peers) in
    let none = sym (map_values-empty keys_total keys_exact listed) in
    λ i. record p { registry = record p.registry { leases = none i } }

pub opened_are_by_application : OpenedAreByApplication
opened_are_by_application config expected peers = subst AreByApplication (opened_plain config expected peers) (by_application (nothing_held config expected peers))

pub resumed_are_by_application : ResumedAreByApplication
resumed_are_by_application = by_application
