-- Each lease stands under the key of its instance: in plain data, and after each step from there. So a state is plain data again
use Rattle.std.proofs.Common.{◌≡◌, ℕ, Bool, true, false, List, [], ◌∷◌, ◌++◌, map, T, refl, sym, ap, ◌∙◌, subst}
use Rattle.std.specs.Prelude.{cond, ◌&&◌, nat_lt, replicate, Option, Some, None}
use Rattle.std.specs.Option.{option_map, option_or}
use Rattle.std.specs.declared.cmp.Ordering.{Ordering}
use Rattle.std.specs.declared.cmp.Ordering.TheVariants.{Less, Equal, Greater}
use Rattle.std.specs.Ordering.{eq_by_cmp, is_eq, is_lt}
use Rattle.std.specs.Cmp.{IsTotalOrder}
use Rattle.std.specs.FinMap.{FinMap, IsAntisymmetric, get, find, entries, entries_sorted, is_sorted, from_entries, get-entries, get-from_entries, get-insert, get-remove, remove, same_map}
use Rattle.std.specs.FinMap.Entries.{below_all}
use Rattle.std.proofs.lemmas.Cmp.{tied_itself}
use Rattle.eu_base.specs.declared.instances.Instance.{Instance}
use Rattle.eu_base.specs.declared.names.Key.{Key}
use Rattle.eu_base.specs.declared.statuses.Status.{Status}
use Rattle.eu_base.specs.declared.statuses.Status.TheVariants.{Unknown}
use Rattle.eu_base.specs.declared.settings.Config.{Config}
use Rattle.eu_base.specs.Values.{key_cmp}
use Rattle.eu_base.proofs.KeyLemmas.{keys_total, keys_exact, names_total, names_exact}
use Rattle.eu_model.specs.declared.commands.Command.{Command}
use Rattle.eu_model.specs.declared.commands.Command.TheVariants.{Register, Renew, Cancel, SetStatus, UnsetStatus, Adopt, Evict, Drain, Landed, Lost}
use Rattle.eu_model.specs.declared.commands.Entry.{Entry}
use Rattle.eu_model.specs.declared.commands.Reply.{Reply}
use Rattle.eu_model.specs.declared.commands.Reply.TheVariants.{Done, NotFound}
use Rattle.eu_model.specs.declared.states.State.{State}
use Rattle.eu_model.specs.declared.views.Listed.{Listed}
use Rattle.eu_model.specs.Change.{newer, row_of, under_row, register, renew, renew_as, cancel, set_status, unset_status, in_status, stamped, overridden_by, uncounted, rule, is_status}
use Rattle.eu_model.specs.Machine.{Machine, seen, permits, with_value, without, Record, is_expired, renewed}
use Rattle.eu_model.specs.Plain.{Plain, plain, listed}
use Rattle.eu_model.specs.Server.{Runs, Server, PlainServer, ServerStep, Run, idle, plain_server}
use Rattle.eu_model.specs.Server as server
use Rattle.eu_model.specs.State.{server_of_state}
use Rattle.eu_model.specs.Step.{Step}
use Rattle.eu_model.proofs.ListingLemmas.{filter_true, listing_shown}
use Rattle.eu_model.proofs.MapLemmas.{get-map_values}
use Rattle.eu_model.proofs.OpeningLemmas.{plain-opening}
use Rattle.eu_model.proofs.ServedLemmas as of
use Rattle.eu_book.specs.Account.{Account, IsLawful, IsOpening}
use Rattle.eu_book.specs.Listing.{ListingsAscend}
use Rattle.eu_book.specs.Peers.{state_of}
use Rattle.eu_model.proofs.EvictionLemmas.{first, second, less}
use Rattle.eu_book.proofs.HistoryLemmas.{runs_on}

-- ---- maps

tie : (q k : Key) → eq_by_cmp key_cmp q k ≡ true → q ≡ k
tie q k is =
    elim (key_cmp q k) as (λ r. key_cmp q k ≡ r → is_eq r ≡ true → q ≡ k) [
      | Less ↦ λ e h. absurd (subst T (sym h) tt)
      | Equal ↦ λ e h. keys_exact q k e
      | Greater ↦ λ e h. absurd (subst T (sym h) tt)
    ] refl is

-- the map of a map's entries
same_entries : {K X : Type 0} {R : K → K → Ordering} → IsTotalOrder R → IsAntisymmetric R → (m : FinMap R X) → from_entries (entries m) ≡ m
same_entries total exact m = same_map total exact _ m (λ q. get-from_entries total (entries m) q ∙ sym (get-entries m q))

module _ {X : Type 0} (key_of : X → Key) where
  -- its key is this one, if it is there
  abbrev pub IsAt : Key → Option X → Type 0
  IsAt k None = Unit {0}
  IsAt k (Some x) = key_of x ≡ k

  abbrev pub IsKeyed : FinMap key_cmp X → Type 0
  IsKeyed m = (k : Key) → IsAt k (get m k)

  either : (k : Key) (b : Bool) (x y : Option X) → (b ≡ true → IsAt k x) → IsAt k y → IsAt k (cond b x y)
  either k true x y p q = p refl
  either k false x y p q = q

  keyed-with : (m : FinMap key_cmp X) (k : Key) (v : Option X) → IsKeyed m → IsAt k v → IsKeyed (with_value m k v)
  keyed-with m k None keyed at q = subst (IsAt q) (sym (get-remove keys_total m k q)) (either q (eq_by_cmp key_cmp q k) None (get m q) (λ _. tt) (keyed q))
  keyed-with m k (Some v) keyed at q =
      subst (IsAt q) (sym (get-insert keys_total m k v q)) (either q (eq_by_cmp key_cmp q k) (Some v) (get m q) (λ is. at ∙ sym (tie q k is)) (keyed q))

  keyed-without : (m : FinMap key_cmp X) (ks : List Key) → IsKeyed m → IsKeyed (without m ks)
  keyed-without m [] keyed = keyed
  keyed-without m (k ∷ ks) keyed = keyed-without (remove m k) ks (keyed-with m k None keyed tt)

  abbrev by_key : List X → List (Key × X)
  by_key xs = map (λ x. (key_of x, x)) xs

  found : (xs : List X) (k : Key) → IsAt k (find key_cmp k (by_key xs))
  found [] k = tt
  found (x ∷ xs) k = either k (eq_by_cmp key_cmp k (key_of x)) (Some x) (find key_cmp k (by_key xs)) (λ is. sym (tie k (key_of x) is)) (found xs k)

  -- what is put under its own key
  keyed-listed : (xs : List X) → IsKeyed (from_entries (by_key xs))
  keyed-listed xs k = subst (IsAt k) (sym (get-from_entries keys_total (by_key xs) k)) (found xs k)

  none_below : (k : Key) (es : List (Key × X)) → T (below_all key_cmp k es) → find key_cmp k es ≡ None
  none_below k [] h = refl
  none_below k (e ∷ es) h =
      ap (λ b. cond b (Some e.1) (find key_cmp k es)) (ap is_eq (less (key_cmp k e.0) (first (is_lt (key_cmp k e.0)) (below_all key_cmp k es) h)))
      ∙ none_below k es (second (is_lt (key_cmp k e.0)) (below_all key_cmp k es) h)

  later : (k : Key) (e : Key × X) (es : List (Key × X)) (b : Bool) → eq_by_cmp key_cmp k e.0 ≡ b → T (below_all key_cmp e.0 es)
      → IsAt k (cond b (Some e.1) (find key_cmp k es)) → IsAt k (find key_cmp k es)
  later k e es true is below at = subst (IsAt k) (sym (ap (λ q. find key_cmp q es) (tie k e.0 is) ∙ none_below e.0 es below)) tt
  later k e es false is below at = at

  -- sorted entries that stand under their own keys are those of their values
  own : (es : List (Key × X)) → T (is_sorted key_cmp es) → ((k : Key) → IsAt k (find key_cmp k es)) → by_key (map (λ e. e.1) es) ≡ es
  own [] sorted keyed = refl
  own (e ∷ es) sorted keyed =
      let below = first (below_all key_cmp e.0 es) (is_sorted key_cmp es) sorted in
      let here : key_of e.1 ≡ e.0 = subst (λ b. IsAt e.0 (cond b (Some e.1) (find key_cmp e.0 es))) (ap is_eq (tied_itself keys_total e.0)) (keyed e.0) in
      let others = own es (second (below_all key_cmp e.0 es) (is_sorted key_cmp es) sorted) (λ k. later k e es (eq_by_cmp key_cmp k e.0) refl below (keyed k)) in
      λ i. (here i, e.1) ∷ others i

  -- a map whose values stand under their own keys is that of its values
  keyed-back : (m : FinMap key_cmp X) → IsKeyed m → from_entries (by_key (map (λ e. e.1) (entries m))) ≡ m
  keyed-back m keyed =
      ap (λ es. from_entries es) (own (entries m) (entries_sorted m) (λ k. subst (IsAt k) (get-entries m k) (keyed k))) ∙ same_entries keys_total keys_exact m

-- ---- steps

abbrev key_of_record : Record → Key
key_of_record r = r.instance.key

abbrev key_of_listed : Listed → Key
key_of_listed l = l.instance.key

abbrev Stands : Key → Option Record → Type 0
Stands = IsAt key_of_record

abbrev Keyed : Machine → Type 0
Keyed s = IsKeyed key_of_record s.leases

under_row-key : (row : Option Status) (i : Instance) → (under_row row i).key ≡ i.key
under_row-key None i = refl
under_row-key (Some row) i = refl

stamped-key : (last_dirty : Option ℕ) (i : Instance) → (stamped last_dirty i).key ≡ i.key
stamped-key None i = refl
stamped-key (Some d) i = elim (nat_lt i.last_dirty d) as (λ b. (cond b (record i { last_dirty = d }) i).key ≡ i.key) [ true ↦ refl | false ↦ refl ]

newer-key : (held : Option Record) (n : Instance) → Stands n.key held → (newer (option_map (λ r. r.instance) held) n).key ≡ n.key
newer-key None n at = refl
newer-key (Some r) n at =
    elim (nat_lt n.last_dirty r.instance.last_dirty) as (λ b. (cond b (record r.instance { secs = n.secs }) n).key ≡ n.key) [ true ↦ at | false ↦ refl ]

registered : (held : Option Record) (row : Option Status) (expected : ℕ) (n : Instance) (replicated : Bool) (t : ℕ)
    → Stands n.key held → Stands n.key (register held row expected n replicated t).lease
registered held row expected n replicated t at = under_row-key _ _ ∙ newer-key held n at

overridden : (row : Option Status) (k : Key) (held : Option Record) → Stands k held → Stands k (option_map (overridden_by row) held)
overridden row k None at = tt
overridden row k (Some r) at = under_row-key row r.instance ∙ at

renews : (k : Key) (held : Option Record) (row : Option Status) (expected : ℕ) (last_dirty : Option ℕ) (overridden : Option Status) (replicated : Bool) (t : ℕ)
    → Stands k held → Stands k (renew held row expected last_dirty overridden replicated t).lease
renews k None row expected last_dirty overridden replicated t at = tt
renews k (Some r) row expected last_dirty overridden replicated t at =
    let status = rule r.instance.status row (Some r.instance.status) replicated in
    elim (is_status status Unknown) as (λ b. Stands k (cond b (uncounted (Some r) row expected NotFound) (renew_as r row expected last_dirty overridden replicated t status)).lease) [
      | true ↦ at
      | false ↦ under_row-key _ _ ∙ at
    ]

cancels : (k : Key) (held : Option Record) (expected : ℕ) → Stands k (cancel held expected).lease
cancels k None expected = tt
cancels k (Some r) expected = tt

sets : (k : Key) (permitted : Bool) (held : Option Record) (row : Option Status) (expected : ℕ) (status : Status) (last_dirty : Option ℕ) (t : ℕ)
    → Stands k held → Stands k (set_status (seen permitted t held) held row expected status last_dirty t).lease
sets k permitted None row expected status last_dirty t at = tt
sets k permitted (Some r) row expected status last_dirty t at =
    elim (permitted && is_expired r t 0) as (λ b. Stands k (set_status (cond b None (Some r)) (Some r) row expected status last_dirty t).lease) [
      | true ↦ at
      | false ↦ elim (is_status r.instance.status status) as (λ b. Stands k (cond b (uncounted (Some (renewed r t)) row expected Done) (uncounted (Some (in_status r status last_dirty t)) (Some status) expected Done)).lease) [
        | true ↦ at
        | false ↦ stamped-key last_dirty _ ∙ at
      ]
    ]

unsets : (k : Key) (permitted : Bool) (held : Option Record) (row : Option Status) (expected : ℕ) (suggested : Option Status) (last_dirty : Option ℕ) (t : ℕ)
    → Stands k held → Stands k (unset_status (seen permitted t held) held row expected suggested last_dirty t).lease
unsets k permitted None row expected suggested last_dirty t at = tt
unsets k permitted (Some r) None expected suggested last_dirty t at =
    elim (permitted && is_expired r t 0) as (λ b. Stands k (unset_status (cond b None (Some r)) (Some r) None expected suggested last_dirty t).lease) [ true ↦ at | false ↦ at ]
unsets k permitted (Some r) (Some row) expected suggested last_dirty t at =
    elim (permitted && is_expired r t 0) as (λ b. Stands k (unset_status (cond b None (Some r)) (Some r) (Some row) expected suggested last_dirty t).lease) [
      | true ↦ at
      | false ↦ stamped-key last_dirty _ ∙ at
    ]

changes : (s : Machine) (k : Key) (v : Option Record) (new : FinMap key_cmp Record) → Keyed s → Stands k v → new ≡ with_value s.leases k v → IsKeyed key_of_record new
changes s k v new keyed at is = subst (IsKeyed key_of_record) (sym is) (keyed-with key_of_record s.leases k v keyed at)

keyed-step : (s : Machine) (c : Command) (t : ℕ) (r : Reply) (new : Machine) → Step s c t r new → Keyed s → Keyed new
keyed-step s (Register n replicated) t r new step keyed =
    let held = get s.leases n.key in
    let row = get s.overrides n.key.id in
    changes s n.key (register held row s.expected n replicated t).lease new.leases keyed (registered held row s.expected n replicated t (keyed n.key)) (ap (λ m. m.leases) step.1)
keyed-step s (Adopt n) t r new step keyed =
    let held = option_map (overridden_by (row_of n.overridden)) (get s.leases n.key) in
    let row = option_or (row_of n.overridden) (get s.overrides n.key.id) in
    let at = registered held row s.expected n true t (overridden (row_of n.overridden) n.key (get s.leases n.key) (keyed n.key)) in
    changes s n.key (register held row s.expected n true t).lease new.leases keyed at (ap (λ m. m.leases) step.1)
keyed-step s (Renew k last_dirty overridden replicated) t r new step keyed =
    changes s k _ new.leases keyed (renews k (get s.leases k) (get s.overrides k.id) s.expected last_dirty overridden replicated t (keyed k)) (ap (λ m. m.leases) step.1)
keyed-step s (Cancel k replicated) t r new step keyed =
    changes s k _ new.leases keyed (cancels k (get s.leases k) s.expected) (ap (λ m. m.leases) step.1)
keyed-step s (SetStatus k status last_dirty replicated) t r new step keyed =
    changes s k _ new.leases keyed (sets k (permits s) (get s.leases k) (get s.overrides k.id) s.expected status last_dirty t (keyed k)) (ap (λ m. m.leases) step.1)
keyed-step s (UnsetStatus k suggested last_dirty replicated) t r new step keyed =
    changes s k _ new.leases keyed (unsets k (permits s) (get s.leases k) (get s.overrides k.id) s.expected suggested last_dirty t (keyed k)) (ap (λ m. m.leases) step.1)
keyed-step s Evict t r new step keyed = subst Keyed (sym step.3) (keyed-without key_of_record s.leases step.0 keyed)
keyed-step s (Drain peer) t r new step keyed = absurd step
keyed-step s (Landed peer codes) t r new step keyed = absurd step
keyed-step s (Lost peer) t r new step keyed = absurd step
keyed-step s c t r new step keyed = subst Keyed (sym step.1) keyed

keyed-server : (s : Server) (c : Command) (t : ℕ) (r : Reply) (new : Server) → ServerStep s c t r new → Keyed s.machine → Keyed new.machine
keyed-server s (Drain peer) t r new step keyed = subst (λ x. Keyed x.machine) (sym step.1.3) keyed
keyed-server s (Landed peer codes) t r new step keyed = subst (λ x. Keyed x.machine) (sym step.1.3) keyed
keyed-server s (Lost peer) t r new step keyed = subst (λ x. Keyed x.machine) (sym step.1.3) keyed
keyed-server s c t r new step keyed = keyed-step s.machine c t r new.machine step.0 keyed

keyed-run : (s : Server) (es : List Entry) (new : Server) → Run s es new → Keyed s.machine → Keyed new.machine
keyed-run s [] new run keyed = subst (λ x. Keyed x.machine) (sym run) keyed
keyed-run s (e ∷ es) new run keyed = keyed-run run.0 es new run.3 (keyed-server s e.command e.moment e.reply run.0 run.2 keyed)

-- ---- plain forms

at-listed : (k : Key) (held : Option Record) → Stands k held → IsAt key_of_listed k (option_map listed held)
at-listed k None at = tt
at-listed k (Some r) at = at

at-record : (k : Key) (held : Option Record) → IsAt key_of_listed k (option_map listed held) → Stands k held
at-record k None at = tt
at-record k (Some r) at = at

keyed-plain : (s : Machine) → Keyed s → IsKeyed key_of_listed (plain s).leases
keyed-plain s keyed k = subst (IsAt key_of_listed k) (sym (get-map_values key_cmp listed s.leases k)) (at-listed k (get s.leases k) (keyed k))

keyed-machine : (s : Machine) → IsKeyed key_of_listed (plain s).leases → Keyed s
keyed-machine s keyed k = at-record k (get s.leases k) (subst (IsAt key_of_listed k) (get-map_values key_cmp listed s.leases k) (keyed k))

-- where entries lead from plain data
pub keyed-runs : (s : State) (es : List Entry) (q : PlainServer) → Runs (server_of_state s) es q → IsKeyed key_of_listed q.registry.leases
keyed-runs s es q runs =
    let before = subst (λ p. IsKeyed key_of_listed p.registry.leases) (sym runs.begins) (keyed-listed key_of_listed s.leases) in
    let after = keyed-plain runs.to.machine (keyed-run runs.from es runs.to runs.run (keyed-machine runs.from.machine before)) in
    subst (λ p. IsKeyed key_of_listed p.registry.leases) runs.ends after

-- a plain form is that of its leases and rows, listed in order
pub plain_back : (p : Plain) → IsKeyed key_of_listed p.leases
    → record p { leases = from_entries (map (λ l. (l.instance.key, l)) (map (λ e. e.1) (entries p.leases))); overrides = from_entries (entries p.overrides) } ≡ p
plain_back p keyed =
    let leases = keyed-back key_of_listed p.leases keyed in
    let overrides = same_entries names_total names_exact p.overrides in
    λ i. record p { leases = leases i; overrides = overrides i }

-- so is a server to which entries lead from plain data
pub server_back : (s : State) (es : List Entry) (q : PlainServer) → Runs (server_of_state s) es q → server_of_state (state_of q) ≡ q
server_back s es q runs =
    let registry = plain_back q.registry (keyed-runs s es q runs) in
    λ i. record { registry = registry i; queues = q.queues }

-- ---- books

-- a server that was just opened, as plain data
abbrev empty : Config → ℕ → ℕ → State
empty config expected peers =
    record { config = config; expected = expected; leases = []; overrides = []; last = 0; since = 0; previous = None; queues = replicate peers idle }

server_of_empty : (config : Config) (expected peers : ℕ) → server_of_state (empty config expected peers) ≡ plain_server (server.opened config expected peers)
server_of_empty config expected peers = ap (λ p. of.server p (replicate peers idle)) (sym (plain-opening config expected))

-- where entries lead from an opening, the server is that of its plain data
opening_back : (p : PlainServer) (es : List Entry) (q : PlainServer) → IsOpening p → Runs p es q → server_of_state (state_of q) ≡ q
opening_back p es q o runs = server_back (empty o.config o.expected o.peers) es q (subst (λ x. Runs x es q) (o.opened ∙ sym (server_of_empty o.config o.expected o.peers)) runs)

-- so are the base and the state of a lawful book
module _ (a : Account) (all : IsLawful a) where
  pub base_back : server_of_state (state_of a.base) ≡ a.base
  base_back = opening_back all.start all.dropped a.base all.opening all.came

  pub state_back : server_of_state (state_of a.state) ≡ a.state
  state_back = opening_back all.start (all.dropped ++ a.entries) a.state all.opening (runs_on all.start all.dropped a.base a.entries a.state all.came all.run)

-- ---- listings

holds : (b : Bool) → T b → b ≡ true
holds true h = refl
holds false h = absurd h

pub listings_ascend : ListingsAscend
listings_ascend s es q runs m is =
    let rows = entries q.registry.leases in
    let keyed = keyed-runs s es q runs in
    let under = own key_of_listed rows (entries_sorted q.registry.leases) (λ k. subst (IsAt key_of_listed k) (get-entries q.registry.leases k) (keyed k)) in
    let shown = sym (listing_shown None q.registry m is) ∙ ap (map (λ (e : Key × Listed). e.1)) (filter_true rows) in
    ap (λ ls. is_sorted key_cmp (by_key key_of_listed ls)) shown ∙ ap (is_sorted key_cmp) under ∙ holds (is_sorted key_cmp rows) (entries_sorted q.registry.leases)
