-- What a step does to the lease at a key is what its entry says
use Rattle.std.proofs.Common.{◌≡◌, ℕ, Bool, true, false, List, [], ◌∷◌, refl, sym, ap, ◌∙◌, subst}
use Rattle.std.specs.Prelude.{cond, ◌||◌, ◌&&◌, nat_lt, Option, Some, None}
use Rattle.std.specs.List.{list_any}
use Rattle.std.specs.Option.{option_map, option_map_or, option_or}
use Rattle.std.specs.FinMap.{FinMap, get, remove, get-insert, get-remove}
use Rattle.eu_base.specs.declared.instances.Instance.{Instance}
use Rattle.eu_base.specs.declared.names.Key.{Key}
use Rattle.eu_base.specs.declared.statuses.Status.{Status}
use Rattle.eu_base.specs.declared.statuses.Status.TheVariants.{Unknown}
use Rattle.eu_base.specs.Values.{key_cmp, key_eq}
use Rattle.eu_base.proofs.KeyLemmas.{keys_total, key_eq-ties, key_eq-Decides}
use Rattle.eu_model.specs.declared.commands.Command.{Command}
use Rattle.eu_model.specs.declared.commands.Command.TheVariants.{Register, Renew, Cancel, SetStatus, UnsetStatus, Adopt, EndMinute, Update, Reconfigure, Evict, Drain, Landed, Lost}
use Rattle.eu_model.specs.declared.commands.Reply.{Reply}
use Rattle.eu_model.specs.declared.commands.Reply.TheVariants.{Done, NotFound, Stale, Conflict}
use Rattle.eu_model.specs.Machine.{Record, newest, duration, is_expired, renewed, seen, permits, with_value, without, Machine}
use Rattle.eu_model.specs.Machine.Kind.{Fresh, Renewed}
use Rattle.eu_model.specs.Change.{newer, row_after, under_row, joined, uncounted, renew, renew_as, renew_reply, row_of_peer, stamped, set_status, unset_status, in_status, out_of_override, cancel, row_of, overridden_by, rule, is_status}
use Rattle.eu_model.specs.Server.{Server, ServerStep}
use Rattle.eu_model.specs.Step.{Step}
use Rattle.eu_model.specs.History.{is_found, registers, renews, ends, duration_by}
use Rattle.eu_model.proofs.RecordLemmas.{newest_snoc}

-- a lease that is registered, one that ends, one that is renewed, and one of which nothing is said
abbrev pub GoesBy : Command → ℕ → Bool → Bool → Bool → Option Record → Option Record → Type 0
GoesBy c t true ended again old new =
    (r : Record) × (new ≡ Some r) × (newest r.touches ≡ record { at = t; kind = Fresh }) × (duration r.instance ≡ duration_by c)
GoesBy c t false true again old new = new ≡ None
GoesBy c t false false true old new =
    (r : Record) × (r' : Record) × (old ≡ Some r) × (new ≡ Some r') × (newest r'.touches ≡ record { at = t; kind = Renewed }) × (duration r'.instance ≡ duration r.instance)
GoesBy c t false false false old new = new ≡ old

-- the lease at a key goes on as the entry says
abbrev pub Goes : Key → Command → ℕ → Reply → Option Record → Option Record → Type 0
Goes k c t reply old new = GoesBy c t (registers k c) (ends k c reply) (renews k c reply) old new

pub get_with : (m : FinMap key_cmp Record) (q : Key) (v : Option Record) (k : Key) → get (with_value m q v) k ≡ cond (key_eq k q) v (get m k)
get_with m q None k = get-remove keys_total m q k ∙ ap (λ b. cond b None (get m k)) (sym (key_eq-ties k q))
get_with m q (Some r) k = get-insert keys_total m q r k ∙ ap (λ b. cond b (Some r) (get m k)) (sym (key_eq-ties k q))

-- a key that is the command's has its lease
pub held_at : (m : FinMap key_cmp Record) (k q : Key) → key_eq k q ≡ true → get m k ≡ get m q
held_at m k q e = ap (get m) ((key_eq-Decides k q).0 e)

-- a lease that is put as it is leaves all as they are
same_at : (m : FinMap key_cmp Record) (k q : Key) (v : Option Record) → v ≡ get m q → get (with_value m q v) k ≡ get m k
same_at m k q v e =
    get_with m q v k ∙ elim (key_eq k q) as (λ b. key_eq k q ≡ b → cond b v (get m k) ≡ get m k) [
      | true ↦ λ is. e ∙ sym (held_at m k q is)
      | false ↦ λ is. refl
    ] refl

-- ---- registrations

secs_under : (row : Option Status) (i : Instance) → duration (under_row row i) ≡ duration i
secs_under None i = refl
secs_under (Some row) i = refl

secs_newer : (held : Option Instance) (n : Instance) → duration (newer held n) ≡ duration n
secs_newer None n = refl
secs_newer (Some h) n = elim (nat_lt n.last_dirty h.last_dirty) as (λ b. duration (cond b (record h { secs = n.secs }) n) ≡ duration n) [ true ↦ refl | false ↦ refl ]

secs_joined : (held : Option Instance) (row : Option Status) (n : Instance) (replicated : Bool) → duration (joined held row n replicated) ≡ duration n
secs_joined held row n replicated = secs_under (row_after row (newer held n).overridden) (newer held n) ∙ secs_newer held n

registers_at : (c : Command) (t : ℕ) (m : FinMap key_cmp Record) (k q : Key) (r : Record)
    → newest r.touches ≡ record { at = t; kind = Fresh } → duration r.instance ≡ duration_by c
    → GoesBy c t (key_eq k q) false false (get m k) (get (with_value m q (Some r)) k)
registers_at c t m k q r at long =
    elim (key_eq k q) as (λ b. get (with_value m q (Some r)) k ≡ cond b (Some r) (get m k) → GoesBy c t b false false (get m k) (get (with_value m q (Some r)) k)) [
      | true ↦ λ is. (r, is, at, long)
      | false ↦ λ is. is
    ] (get_with m q (Some r) k)

-- ---- renewals

-- a lease that is renewed where it was found, and else stays
abbrev Renews : Bool → ℕ → Option Record → Option Record → Type 0
Renews true t held v =
    (r : Record) × (r' : Record) × (held ≡ Some r) × (v ≡ Some r') × (newest r'.touches ≡ record { at = t; kind = Renewed }) × (duration r'.instance ≡ duration r.instance)
Renews false t held v = v ≡ held

renews_at : (c : Command) (t : ℕ) (m : FinMap key_cmp Record) (k q : Key) (v : Option Record) (found : Bool) → Renews found t (get m q) v
    → GoesBy c t false false (option_map_or (key_eq k) (cond found (Some q) None) false) (get m k) (get (with_value m q v) k)
renews_at c t m k q v false same = same_at m k q v same
renews_at c t m k q v true (r, r', old, new, at, long) =
    elim (key_eq k q) as (λ b. key_eq k q ≡ b → get (with_value m q v) k ≡ cond b v (get m k) → GoesBy c t false false b (get m k) (get (with_value m q v) k)) [
      | true ↦ λ is e. (r, r', held_at m k q is ∙ old, e ∙ new, at, long)
      | false ↦ λ is e. e
    ] refl (get_with m q v k)

pub found_reply : (last_dirty : Option ℕ) (i : Instance) (replicated : Bool) → is_found (renew_reply last_dirty i replicated) ≡ true
found_reply None i replicated = refl
found_reply (Some d) i replicated =
    elim (nat_lt i.last_dirty d) as (λ b. is_found (cond b Stale (cond (nat_lt d i.last_dirty && replicated) (Conflict i) Done)) ≡ true) [
      | true ↦ refl
      | false ↦ elim (nat_lt d i.last_dirty && replicated) as (λ b. is_found (cond b (Conflict i) Done) ≡ true) [ true ↦ refl | false ↦ refl ]
    ]

renewed_at : (r : Record) (t : ℕ) → newest (renewed r t).touches ≡ record { at = t; kind = Renewed }
renewed_at r t = newest_snoc r.touches (record { at = t; kind = Renewed })

renew_renews : (held : Option Record) (row : Option Status) (expected : ℕ) (last_dirty : Option ℕ) (overridden : Option Status) (replicated : Bool) (t : ℕ)
    → Renews (is_found (renew held row expected last_dirty overridden replicated t).reply) t held (renew held row expected last_dirty overridden replicated t).lease
renew_renews None row expected last_dirty overridden replicated t = refl
renew_renews (Some r) row expected last_dirty overridden replicated t =
    let status = rule r.instance.status row (Some r.instance.status) replicated in
    let i : Instance = record r.instance { status = status } in
    let new_row = row_of_peer (renew_reply last_dirty i replicated) replicated overridden row in
    let as_renewed : Renews true t (Some r) (renew_as r row expected last_dirty overridden replicated t status).lease =
    (r, record (renewed r t) { instance = under_row new_row i }, refl, refl, renewed_at r t, secs_under new_row i) in
    elim (is_status status Unknown) as (λ b. Renews (is_found (cond b (uncounted (Some r) row expected NotFound) (renew_as r row expected last_dirty overridden replicated t status)).reply) t (Some r) (cond b (uncounted (Some r) row expected NotFound) (renew_as r row expected last_dirty overridden replicated t status)).lease) [
      | true ↦ refl
      | false ↦ subst (λ b. Renews b t (Some r) (renew_as r row expected last_dirty overridden replicated t status).lease) (sym (found_reply last_dirty i replicated)) as_renewed
    ]

secs_stamped : (last_dirty : Option ℕ) (i : Instance) → duration (stamped last_dirty i) ≡ duration i
secs_stamped None i = refl
secs_stamped (Some d) i = elim (nat_lt i.last_dirty d) as (λ b. duration (cond b (record i { last_dirty = d }) i) ≡ duration i) [ true ↦ refl | false ↦ refl ]

set_renews : (permitted : Bool) (held : Option Record) (row : Option Status) (expected : ℕ) (status : Status) (last_dirty : Option ℕ) (t : ℕ)
    → Renews (is_found (set_status (seen permitted t held) held row expected status last_dirty t).reply) t held (set_status (seen permitted t held) held row expected status last_dirty t).lease
set_renews permitted None row expected status last_dirty t = refl
set_renews permitted (Some r) row expected status last_dirty t =
    elim (permitted && is_expired r t 0) as (λ b. Renews (is_found (set_status (cond b None (Some r)) (Some r) row expected status last_dirty t).reply) t (Some r) (set_status (cond b None (Some r)) (Some r) row expected status last_dirty t).lease) [
      | true ↦ refl
      | false ↦ elim (is_status r.instance.status status) as (λ b. Renews (is_found (cond b (uncounted (Some (renewed r t)) row expected Done) (uncounted (Some (in_status r status last_dirty t)) (Some status) expected Done)).reply) t (Some r) (cond b (uncounted (Some (renewed r t)) row expected Done) (uncounted (Some (in_status r status last_dirty t)) (Some status) expected Done)).lease) [
        | true ↦ (r, renewed r t, refl, refl, renewed_at r t, refl)
        | false ↦ (r, in_status r status last_dirty t, refl, refl, renewed_at r t, secs_stamped last_dirty (record r.instance { status = status; overridden = status }))
      ]
    ]

unset_renews : (permitted : Bool) (held : Option Record) (row : Option Status) (expected : ℕ) (suggested : Option Status) (last_dirty : Option ℕ) (t : ℕ)
    → Renews (is_found (unset_status (seen permitted t held) held row expected suggested last_dirty t).reply) t held (unset_status (seen permitted t held) held row expected suggested last_dirty t).lease
unset_renews permitted None row expected suggested last_dirty t = refl
unset_renews permitted (Some r) None expected suggested last_dirty t =
    elim (permitted && is_expired r t 0) as (λ b. Renews (is_found (unset_status (cond b None (Some r)) (Some r) None expected suggested last_dirty t).reply) t (Some r) (unset_status (cond b None (Some r)) (Some r) None expected suggested last_dirty t).lease) [
      | true ↦ refl
      | false ↦ (r, renewed r t, refl, refl, renewed_at r t, refl)
    ]
unset_renews permitted (Some r) (Some row) expected suggested last_dirty t =
    elim (permitted && is_expired r t 0) as (λ b. Renews (is_found (unset_status (cond b None (Some r)) (Some r) (Some row) expected suggested last_dirty t).reply) t (Some r) (unset_status (cond b None (Some r)) (Some r) (Some row) expected suggested last_dirty t).lease) [
      | true ↦ refl
      | false ↦ (r, out_of_override r suggested last_dirty t, refl, refl, renewed_at r t, secs_stamped last_dirty _)
    ]

-- ---- ends

cancels_at : (c : Command) (t : ℕ) (m : FinMap key_cmp Record) (k q : Key) (expected : ℕ) (held : Option Record) → get m q ≡ held
    → GoesBy c t false (list_any (key_eq k) (cond (is_found (cancel held expected).reply) (q ∷ []) [])) false (get m k) (get (with_value m q (cancel held expected).lease) k)
cancels_at c t m k q expected None at = same_at m k q None (sym at)
cancels_at c t m k q expected (Some r) at =
    elim (key_eq k q) as (λ b. get (remove m q) k ≡ cond b None (get m k) → GoesBy c t false (b || false) false (get m k) (get (remove m q) k)) [
      | true ↦ λ e. e
      | false ↦ λ e. e
    ] (get_with m q None k)

-- the lease at a key after those at some keys went
pub get_without : (m : FinMap key_cmp Record) (vs : List Key) (k : Key) → get (without m vs) k ≡ cond (list_any (key_eq k) vs) None (get m k)
get_without m [] k = refl
get_without m (v ∷ vs) k =
    get_without (remove m v) vs k
    ∙ ap (cond (list_any (key_eq k) vs) None) (get_with m v None k)
    ∙ elim (key_eq k v) as (λ b. cond (list_any (key_eq k) vs) None (cond b None (get m k)) ≡ cond (b || list_any (key_eq k) vs) None (get m k)) [
      | true ↦ elim (list_any (key_eq k) vs) as (λ b. cond b None (let none : Option Record = None in none) ≡ None) [ true ↦ refl | false ↦ refl ]
      | false ↦ refl
    ]

evicts_at : (c : Command) (t : ℕ) (m : FinMap key_cmp Record) (k : Key) (vs : List Key) → GoesBy c t false (list_any (key_eq k) vs) false (get m k) (get (without m vs) k)
evicts_at c t m k vs =
    elim (list_any (key_eq k) vs) as (λ b. get (without m vs) k ≡ cond b None (get m k) → GoesBy c t false b false (get m k) (get (without m vs) k)) [
      | true ↦ λ e. e
      | false ↦ λ e. e
    ] (get_without m vs k)

-- ---- steps

pub step_goes : (s : Machine) (c : Command) (t : ℕ) (reply : Reply) (new : Machine) → Step s c t reply new → (k : Key) → Goes k c t reply (get s.leases k) (get new.leases k)
step_goes s (Register n replicated) t reply new step k =
    let before = option_map (λ (r : Record). r.instance) (get s.leases n.key) in
    subst (λ x. Goes k (Register n replicated) t reply (get s.leases k) (get x.leases k)) (sym step.1)
    (registers_at (Register n replicated) t s.leases k n.key _ refl (secs_joined before (get s.overrides n.key.id) n replicated))
step_goes s (Adopt n) t reply new step k =
    let before = option_map (λ (r : Record). r.instance) (option_map (overridden_by (row_of n.overridden)) (get s.leases n.key)) in
    subst (λ x. Goes k (Adopt n) t reply (get s.leases k) (get x.leases k)) (sym step.1)
    (registers_at (Adopt n) t s.leases k n.key _ refl (secs_joined before (option_or (row_of n.overridden) (get s.overrides n.key.id)) n true))
step_goes s (Renew q last_dirty overridden replicated) t reply new step k =
    let c = Renew q last_dirty overridden replicated in
    let change = renew (get s.leases q) (get s.overrides q.id) s.expected last_dirty overridden replicated t in
    subst (λ x. Goes k c t reply (get s.leases k) (get x.leases k)) (sym step.1)
    (subst (λ a. Goes k c t a (get s.leases k) (get (with_value s.leases q change.lease) k)) (sym step.0)
    (renews_at c t s.leases k q change.lease (is_found change.reply) (renew_renews (get s.leases q) (get s.overrides q.id) s.expected last_dirty overridden replicated t)))
step_goes s (SetStatus q status last_dirty replicated) t reply new step k =
    let c = SetStatus q status last_dirty replicated in
    let change = set_status (seen (permits s) t (get s.leases q)) (get s.leases q) (get s.overrides q.id) s.expected status last_dirty t in
    subst (λ x. Goes k c t reply (get s.leases k) (get x.leases k)) (sym step.1)
    (subst (λ a. Goes k c t a (get s.leases k) (get (with_value s.leases q change.lease) k)) (sym step.0)
    (renews_at c t s.leases k q change.lease (is_found change.reply) (set_renews (permits s) (get s.leases q) (get s.overrides q.id) s.expected status last_dirty t)))
step_goes s (UnsetStatus q suggested last_dirty replicated) t reply new step k =
    let c = UnsetStatus q suggested last_dirty replicated in
    let change = unset_status (seen (permits s) t (get s.leases q)) (get s.leases q) (get s.overrides q.id) s.expected suggested last_dirty t in
    subst (λ x. Goes k c t reply (get s.leases k) (get x.leases k)) (sym step.1)
    (subst (λ a. Goes k c t a (get s.leases k) (get (with_value s.leases q change.lease) k)) (sym step.0)
    (renews_at c t s.leases k q change.lease (is_found change.reply) (unset_renews (permits s) (get s.leases q) (get s.overrides q.id) s.expected suggested last_dirty t)))
step_goes s (Cancel q replicated) t reply new step k =
    let c = Cancel q replicated in
    let change = cancel (get s.leases q) s.expected in
    subst (λ x. Goes k c t reply (get s.leases k) (get x.leases k)) (sym step.1)
    (subst (λ a. Goes k c t a (get s.leases k) (get (with_value s.leases q change.lease) k)) (sym step.0)
    (cancels_at c t s.leases k q s.expected (get s.leases q) refl))
step_goes s EndMinute t reply new step k = ap (λ m. get m.leases k) step.1
step_goes s Update t reply new step k = ap (λ m. get m.leases k) step.1
step_goes s (Reconfigure config) t reply new step k = ap (λ m. get m.leases k) step.1
step_goes s (Drain peer) t reply new step k = absurd step
step_goes s (Landed peer codes) t reply new step k = absurd step
step_goes s (Lost peer) t reply new step k = absurd step
step_goes s Evict t reply new step k =
    subst (λ x. Goes k Evict t reply (get s.leases k) (get x.leases k)) (sym step.3)
    (subst (λ a. Goes k Evict t a (get s.leases k) (get (without s.leases step.0) k)) (sym step.1) (evicts_at Evict t s.leases k step.0))

pub server_goes : (s : Server) (c : Command) (t : ℕ) (reply : Reply) (new : Server) → ServerStep s c t reply new
    → (k : Key) → Goes k c t reply (get s.machine.leases k) (get new.machine.leases k)
server_goes s (Drain peer) t reply new step k = ap (λ x. get x.machine.leases k) step.1.3
server_goes s (Landed peer codes) t reply new step k = ap (λ x. get x.machine.leases k) step.1.3
server_goes s (Lost peer) t reply new step k = ap (λ x. get x.machine.leases k) step.1.3
server_goes s c t reply new step k = step_goes s.machine c t reply new.machine step.0 k
