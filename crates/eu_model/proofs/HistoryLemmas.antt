-- After every run the machine is what its entries say
use Rattle.std.proofs.Common.{◌≡◌, ℕ, ◌+◌, ◌*◌, Bool, true, false, List, [], ◌∷◌, ◌++◌, refl, sym, ap, ◌∙◌, subst, arith}
use Rattle.std.specs.Prelude.{cond, ◌||◌, not, nat_lt, Option, Some, None, is_some, unwrap_or}
use Rattle.std.specs.List.{find}
use Rattle.std.specs.Option.{option_map, option_map_or}
use Rattle.std.specs.FinMap.{get, len, get-empty}
use Rattle.std.proofs.lemmas.Option.{none-some}
use Rattle.std.proofs.lemmas.List.{reverse-append, append_assoc, append-nil}
use Rattle.eu_base.specs.declared.instances.Instance.{Instance}
use Rattle.eu_base.specs.declared.names.Key.{Key}
use Rattle.eu_base.specs.declared.settings.Config.{Config}
use Rattle.eu_base.specs.declared.statuses.Status.{Status}
use Rattle.eu_base.specs.declared.statuses.Status.TheVariants.{Unknown}
use Rattle.eu_base.specs.Values.{key_cmp}
use Rattle.eu_model.specs.declared.commands.Command.{Command}
use Rattle.eu_model.specs.declared.commands.Command.TheVariants.{Register, Renew, Cancel, SetStatus, UnsetStatus, Adopt, EndMinute, Update, Reconfigure, Evict, Drain, Landed, Lost}
use Rattle.eu_model.specs.declared.commands.Entry.{Entry}
use Rattle.eu_model.specs.declared.commands.Reply.{Reply}
use Rattle.eu_model.specs.declared.commands.Reply.TheVariants.{Done, NotFound, Expected}
use Rattle.eu_model.specs.Machine.{Record, Kind, newest, duration, durations, is_expired, renewed, Mark, since, last, Machine, opening, seen, permits}
use Rattle.eu_model.specs.Machine.Kind.{Fresh, Renewed}
use Rattle.eu_model.specs.Machine.Mark.{Minute}
use Rattle.eu_model.specs.Change.{uncounted, register, adopt, renew, renew_as, set_status, unset_status, in_status, cancel, rule, is_status}
use Rattle.eu_model.specs.Step.{Step, marked}
use Rattle.eu_model.specs.Server.{Server, ServerStep, Run, opened}
use Rattle.eu_model.specs.History.{is_found, registers, renews, ends, newest_where, newest_touch, newest_registration, duration_by, durations_after, lasts_from, is_counted, ends_minute, renewals_since, renewals_of_last_minute, set_by, settings, expected_then, expected_by, is_evict, previous_eviction}
use Rattle.eu_model.specs.RunLaw.{IsAsSaid, LeasesAreAsSaid, NumbersAreAsSaid, UpdatesAreAsSaid}
use Rattle.eu_model.proofs.MarkLemmas.{since_push, before_push, since_renewal, since_minute, last_renewal, last_minute, none_since, none_last}
use Rattle.eu_model.proofs.GrowthLemmas.{GoesBy, Goes, server_goes, found_reply}

newest_push : (test : Entry → Bool) (es : List Entry) (e : Entry) → newest_where test (es ++ (e ∷ [])) ≡ cond (test e) (Some e) (newest_where test es)
newest_push test es e = ap (find test) (reverse-append es (e ∷ []))

-- ---- leases

abbrev kind_by : Bool → Kind
kind_by true = Fresh
kind_by false = Renewed

-- what is said of a lease by the newest entry that registered or ended it, by its newest touch and by its newest registration
abbrev SaidBy : Key → Option Entry → Option Entry → Option Entry → Option Record → Type 0
SaidBy k settled touch registration None = option_map_or (λ e. registers k e.command) settled false ≡ false
SaidBy k settled touch registration (Some r) =
    (option_map_or (λ e. registers k e.command) settled false ≡ true)
    × ((e : Entry) × (touch ≡ Some e) × (newest r.touches ≡ record { at = e.moment; kind = kind_by (registers k e.command) }))
    × ((g : Entry) × (registration ≡ Some g) × (duration r.instance ≡ duration_by g.command))

abbrev newest_settling : Key → List Entry → Option Entry
newest_settling k es = newest_where (λ e. registers k e.command || ends k e.command e.reply) es

abbrev Said : Key → List Entry → Option Record → Type 0
Said k es lease = SaidBy k (newest_settling k es) (newest_touch k es) (newest_registration k es) lease

module _ (k : Key) (e : Entry) (a b c : Option Entry) where
  abbrev After : Bool → Bool → Bool → Option Record → Type 0
  After reg ended again new = SaidBy k (cond (reg || ended) (Some e) a) (cond (reg || again) (Some e) b) (cond reg (Some e) c) new

  said_on : (old new : Option Record) (reg ended again : Bool) → registers k e.command ≡ reg → SaidBy k a b c old
      → GoesBy e.command e.moment reg ended again old new → After reg ended again new
  said_on old new true ended again is said (r, new_is, at, long) =
      let touched : newest r.touches ≡ record { at = e.moment; kind = kind_by (registers k e.command) } =
      at ∙ (λ i. record { at = e.moment; kind = kind_by (sym is i) }) in
      subst (After true ended again) (sym new_is) (is, (e, refl, touched), (e, refl, long))
  said_on old new false true again is said goes = subst (After false true again) (sym goes) is
  said_on old new false false true is said (r, r', old_is, new_is, at, long) =
      let before = subst (SaidBy k a b c) old_is said in
      let touched : newest r'.touches ≡ record { at = e.moment; kind = kind_by (registers k e.command) } =
      at ∙ (λ i. record { at = e.moment; kind = kind_by (sym is i) }) in
      subst (After false false true) (sym new_is) (before.0, (e, refl, touched), (before.2.0, before.2.1, long ∙ before.2.2))
  said_on old new false false false is said goes = subst (SaidBy k a b c) (sym goes) said

said_push : (k : Key) (es : List Entry) (e : Entry) (old new : Option Record) → Said k es old → Goes k e.command e.moment e.reply old new → Said k (es ++ (e ∷ [])) new
said_push k es e old new said goes =
    let settled = newest_push (λ x. registers k x.command || ends k x.command x.reply) es e in
    let touch = newest_push (λ x. registers k x.command || renews k x.command x.reply) es e in
    let registration = newest_push (λ x. registers k x.command) es e in
    subst (λ x. SaidBy k x (newest_touch k (es ++ (e ∷ []))) (newest_registration k (es ++ (e ∷ []))) new) (sym settled)
    (subst (λ x. SaidBy k (cond (registers k e.command || ends k e.command e.reply) (Some e) (newest_settling k es)) x (newest_registration k (es ++ (e ∷ []))) new) (sym touch)
    (subst (λ x. SaidBy k (cond (registers k e.command || ends k e.command e.reply) (Some e) (newest_settling k es)) (cond (registers k e.command || renews k e.command e.reply) (Some e) (newest_touch k es)) x new) (sym registration)
    (said_on k e (newest_settling k es) (newest_touch k es) (newest_registration k es) old new (registers k e.command) (ends k e.command e.reply) (renews k e.command e.reply) refl said goes)))

-- ---- minutes

abbrev marks_after : Command → Reply → List Mark → List Mark
marks_after c reply marks = cond (ends_minute c) (marks ++ (Minute ∷ [])) (marked (is_counted c reply) marks)

renew_counts : (held : Option Record) (row : Option Status) (expected : ℕ) (last_dirty : Option ℕ) (overridden : Option Status) (replicated : Bool) (t : ℕ)
    → (renew held row expected last_dirty overridden replicated t).counted ≡ is_found (renew held row expected last_dirty overridden replicated t).reply
renew_counts None row expected last_dirty overridden replicated t = refl
renew_counts (Some r) row expected last_dirty overridden replicated t =
    let status = rule r.instance.status row (Some r.instance.status) replicated in
    elim (is_status status Unknown) as (λ b. (cond b (uncounted (Some r) row expected NotFound) (renew_as r row expected last_dirty overridden replicated t status)).counted ≡ is_found (cond b (uncounted (Some r) row expected NotFound) (renew_as r row expected last_dirty overridden replicated t status)).reply) [
      | true ↦ refl
      | false ↦ sym (found_reply last_dirty (record r.instance { status = status }) replicated)
    ]

set_counts : (visible held : Option Record) (row : Option Status) (expected : ℕ) (status : Status) (last_dirty : Option ℕ) (t : ℕ)
    → (set_status visible held row expected status last_dirty t).counted ≡ false
set_counts None held row expected status last_dirty t = refl
set_counts (Some r) held row expected status last_dirty t =
    elim (is_status r.instance.status status) as (λ b. (cond b (uncounted (Some (renewed r t)) row expected Done) (uncounted (Some (in_status r status last_dirty t)) (Some status) expected Done)).counted ≡ false) [ true ↦ refl | false ↦ refl ]

unset_counts : (visible held : Option Record) (row : Option Status) (expected : ℕ) (suggested : Option Status) (last_dirty : Option ℕ) (t : ℕ)
    → (unset_status visible held row expected suggested last_dirty t).counted ≡ false
unset_counts None held row expected suggested last_dirty t = refl
unset_counts (Some r) held None expected suggested last_dirty t = refl
unset_counts (Some r) held (Some row) expected suggested last_dirty t = refl

cancel_counts : (held : Option Record) (expected : ℕ) → (cancel held expected).counted ≡ false
cancel_counts None expected = refl
cancel_counts (Some r) expected = refl

register_expects : (n : Instance) (replicated : Bool) (held : Option Record) (row : Option Status) (expected t : ℕ)
    → (register held row expected n replicated t).expected ≡ expected_then expected (Register n replicated) (register held row expected n replicated t).reply
register_expects n replicated None row expected t = refl
register_expects n replicated (Some r) row expected t = refl

adopt_expects : (n : Instance) (held : Option Record) (row : Option Status) (expected t : ℕ)
    → (adopt held row expected n t).expected ≡ expected_then expected (Adopt n) (adopt held row expected n t).reply
adopt_expects n None row expected t = refl
adopt_expects n (Some r) row expected t = refl

cancel_expects : (k : Key) (replicated : Bool) (held : Option Record) (expected : ℕ)
    → (cancel held expected).expected ≡ expected_then expected (Cancel k replicated) (cancel held expected).reply
cancel_expects k replicated None expected = refl
cancel_expects k replicated (Some r) expected = refl

renew_expects : (held : Option Record) (row : Option Status) (expected : ℕ) (last_dirty : Option ℕ) (overridden : Option Status) (replicated : Bool) (t : ℕ)
    → (renew held row expected last_dirty overridden replicated t).expected ≡ expected
renew_expects None row expected last_dirty overridden replicated t = refl
renew_expects (Some r) row expected last_dirty overridden replicated t =
    let status = rule r.instance.status row (Some r.instance.status) replicated in
    elim (is_status status Unknown) as (λ b. (cond b (uncounted (Some r) row expected NotFound) (renew_as r row expected last_dirty overridden replicated t status)).expected ≡ expected) [ true ↦ refl | false ↦ refl ]

set_expects : (visible held : Option Record) (row : Option Status) (expected : ℕ) (status : Status) (last_dirty : Option ℕ) (t : ℕ)
    → (set_status visible held row expected status last_dirty t).expected ≡ expected
set_expects None held row expected status last_dirty t = refl
set_expects (Some r) held row expected status last_dirty t =
    elim (is_status r.instance.status status) as (λ b. (cond b (uncounted (Some (renewed r t)) row expected Done) (uncounted (Some (in_status r status last_dirty t)) (Some status) expected Done)).expected ≡ expected) [ true ↦ refl | false ↦ refl ]

unset_expects : (visible held : Option Record) (row : Option Status) (expected : ℕ) (suggested : Option Status) (last_dirty : Option ℕ) (t : ℕ)
    → (unset_status visible held row expected suggested last_dirty t).expected ≡ expected
unset_expects None held row expected suggested last_dirty t = refl
unset_expects (Some r) held None expected suggested last_dirty t = refl
unset_expects (Some r) held (Some row) expected suggested last_dirty t = refl

-- what a step leaves of the settings, the number expected, the marks and the eviction before
pub record Leaves (c : Command) (t : ℕ) (reply : Reply) (old new : Machine) : Type 0 where
  pub config : new.config ≡ unwrap_or (set_by c) old.config
  pub expected : new.expected ≡ expected_then old.expected c reply
  pub marks : new.marks ≡ marks_after c reply old.marks
  pub previous : new.previous ≡ cond (is_evict c) (Some t) old.previous

step_leaves : (s : Machine) (c : Command) (t : ℕ) (reply : Reply) (new : Machine) → Step s c t reply new → Leaves c t reply s new
step_leaves s (Register n replicated) t reply new step = record { config = ap (λ m. m.config) step.1; expected = ap (λ m. m.expected) step.1 ∙ register_expects n replicated (get s.leases n.key) (get s.overrides n.key.id) s.expected t ∙ ap (expected_then s.expected (Register n replicated)) (sym step.0); marks = ap (λ m. m.marks) step.1; previous = ap (λ m. m.previous) step.1 }
step_leaves s (Adopt n) t reply new step = record { config = ap (λ m. m.config) step.1; expected = ap (λ m. m.expected) step.1 ∙ adopt_expects n (get s.leases n.key) (get s.overrides n.key.id) s.expected t ∙ ap (expected_then s.expected (Adopt n)) (sym step.0); marks = ap (λ m. m.marks) step.1; previous = ap (λ m. m.previous) step.1 }
step_leaves s (Renew k last_dirty overridden replicated) t reply new step = record {
  config = ap (λ m. m.config) step.1;
  expected = ap (λ m. m.expected) step.1 ∙ renew_expects (get s.leases k) (get s.overrides k.id) s.expected last_dirty overridden replicated t;
  marks = ap (λ m. m.marks) step.1 ∙ ap (λ b. marked b s.marks) (renew_counts (get s.leases k) (get s.overrides k.id) s.expected last_dirty overridden replicated t ∙ ap is_found (sym step.0));
  previous = ap (λ m. m.previous) step.1;
}
step_leaves s (SetStatus k status last_dirty replicated) t reply new step = record {
  config = ap (λ m. m.config) step.1;
  expected = ap (λ m. m.expected) step.1 ∙ set_expects (seen (permits s) t (get s.leases k)) (get s.leases k) (get s.overrides k.id) s.expected status last_dirty t;
  marks = ap (λ m. m.marks) step.1 ∙ ap (λ b. marked b s.marks) (set_counts (seen (permits s) t (get s.leases k)) (get s.leases k) (get s.overrides k.id) s.expected status last_dirty t);
  previous = ap (λ m. m.previous) step.1;
}
step_leaves s (UnsetStatus k suggested last_dirty replicated) t reply new step = record {
  config = ap (λ m. m.config) step.1;
  expected = ap (λ m. m.expected) step.1 ∙ unset_expects (seen (permits s) t (get s.leases k)) (get s.leases k) (get s.overrides k.id) s.expected suggested last_dirty t;
  marks = ap (λ m. m.marks) step.1 ∙ ap (λ b. marked b s.marks) (unset_counts (seen (permits s) t (get s.leases k)) (get s.leases k) (get s.overrides k.id) s.expected suggested last_dirty t);
  previous = ap (λ m. m.previous) step.1;
}
step_leaves s (Cancel k replicated) t reply new step = record {
  config = ap (λ m. m.config) step.1;
  expected = ap (λ m. m.expected) step.1 ∙ cancel_expects k replicated (get s.leases k) s.expected ∙ ap (expected_then s.expected (Cancel k replicated)) (sym step.0);
  marks = ap (λ m. m.marks) step.1 ∙ ap (λ b. marked b s.marks) (cancel_counts (get s.leases k) s.expected);
  previous = ap (λ m. m.previous) step.1;
}
step_leaves s EndMinute t reply new step = record { config = ap (λ m. m.config) step.1; expected = ap (λ m. m.expected) step.1; marks = ap (λ m. m.marks) step.1; previous = ap (λ m. m.previous) step.1 }
step_leaves s (Reconfigure config) t reply new step = record { config = ap (λ m. m.config) step.1; expected = ap (λ m. m.expected) step.1; marks = ap (λ m. m.marks) step.1; previous = ap (λ m. m.previous) step.1 }
step_leaves s Update t reply new step = record { config = ap (λ m. m.config) step.1; expected = ap (λ m. m.expected) step.1 ∙ ap (expected_then s.expected Update) (sym step.0); marks = ap (λ m. m.marks) step.1; previous = ap (λ m. m.previous) step.1 }
step_leaves s Evict t reply new step = record { config = ap (λ m. m.config) step.3; expected = ap (λ m. m.expected) step.3 ∙ ap (expected_then s.expected Evict) (sym step.1); marks = ap (λ m. m.marks) step.3; previous = ap (λ m. m.previous) step.3 }
step_leaves s (Drain peer) t reply new step = absurd step
step_leaves s (Landed peer codes) t reply new step = absurd step
step_leaves s (Lost peer) t reply new step = absurd step

pub server_leaves : (s : Server) (c : Command) (t : ℕ) (reply : Reply) (new : Server) → ServerStep s c t reply new → Leaves c t reply s.machine new.machine
server_leaves s (Drain peer) t reply new step = record { config = ap (λ x. x.machine.config) step.1.3; expected = ap (λ x. x.machine.expected) step.1.3; marks = ap (λ x. x.machine.marks) step.1.3; previous = ap (λ x. x.machine.previous) step.1.3 }
server_leaves s (Landed peer codes) t reply new step = record { config = ap (λ x. x.machine.config) step.1.3; expected = ap (λ x. x.machine.expected) step.1.3; marks = ap (λ x. x.machine.marks) step.1.3; previous = ap (λ x. x.machine.previous) step.1.3 }
server_leaves s (Lost peer) t reply new step = record { config = ap (λ x. x.machine.config) step.1.3; expected = ap (λ x. x.machine.expected) step.1.3; marks = ap (λ x. x.machine.marks) step.1.3; previous = ap (λ x. x.machine.previous) step.1.3 }
server_leaves s c t reply new step = step_leaves s.machine c t reply new.machine step.0

since_after : (minute counted : Bool) (marks : List Mark) → since (cond minute (marks ++ (Minute ∷ [])) (marked counted marks)) ≡ cond minute 0 (since marks + cond counted 1 0)
since_after true counted marks = since_minute marks
since_after false true marks = since_renewal marks
since_after false false marks = omega arith

last_after : (minute counted : Bool) (marks : List Mark) → last (cond minute (marks ++ (Minute ∷ [])) (marked counted marks)) ≡ cond minute (since marks) (last marks)
last_after true counted marks = last_minute marks
last_after false true marks = last_renewal marks
last_after false false marks = refl

since_pushed : (es : List Entry) (e : Entry) → renewals_since (es ++ (e ∷ [])) ≡ cond (ends_minute e.command) 0 (renewals_since es + cond (is_counted e.command e.reply) 1 0)
since_pushed es e = since_push (λ (x : Entry). ends_minute x.command) (λ x. is_counted x.command x.reply) es e (ends_minute e.command) refl

last_pushed : (es : List Entry) (e : Entry) → renewals_of_last_minute (es ++ (e ∷ [])) ≡ cond (ends_minute e.command) (renewals_since es) (renewals_of_last_minute es)
last_pushed es e = before_push (λ (x : Entry). ends_minute x.command) (λ x. is_counted x.command x.reply) es e (ends_minute e.command) refl

-- ---- runs

option_map-cond : (b : Bool) (e : Entry) (o : Option Entry) → option_map (λ (x : Entry). x.moment) (cond b (Some e) o) ≡ cond b (Some e.moment) (option_map (λ x. x.moment) o)
option_map-cond true e o = refl
option_map-cond false e o = refl

pub record Tells (opened_with : Config) (opened_for : ℕ) (es : List Entry) (s : Machine) : Type 0 where
  pub config : s.config ≡ settings opened_with es
  pub expected : s.expected ≡ expected_by opened_for es
  pub leases : (k : Key) → Said k es (get s.leases k)
  pub since : since s.marks ≡ renewals_since es
  pub last : last s.marks ≡ renewals_of_last_minute es
  pub previous : s.previous ≡ previous_eviction es

settings-cond : (config : Config) (c : Command) (e : Entry) (o : Option Entry) → e.command ≡ c
    → option_map_or (λ (x : Entry). unwrap_or (set_by x.command) config) (cond (is_some (set_by c)) (Some e) o) config
    ≡ unwrap_or (set_by c) (option_map_or (λ x. unwrap_or (set_by x.command) config) o config)
settings-cond config c e o is =
    elim (set_by c) as (λ w. set_by c ≡ w → option_map_or (λ (x : Entry). unwrap_or (set_by x.command) config) (cond (is_some w) (Some e) o) config
    ≡ unwrap_or w (option_map_or (λ x. unwrap_or (set_by x.command) config) o config)) [
      | None ↦ λ none. refl
      | Some new ↦ λ some. ap (λ w. unwrap_or w config) (ap set_by is ∙ some)
    ] refl

expected_push : (n : ℕ) (es : List Entry) (e : Entry) → expected_by n (es ++ (e ∷ [])) ≡ expected_then (expected_by n es) e.command e.reply
expected_push n [] e = refl
expected_push n (d ∷ es) e = expected_push (expected_then n d.command d.reply) es e

module _ (config : Config) (expected : ℕ) where
  tells_opening : Tells config expected [] (opening config expected)
  tells_opening = record {
    config = refl;
    expected = refl;
    leases = λ k. subst (Said k []) (sym (get-empty key_cmp k)) refl;
    since = none_since;
    last = none_last;
    previous = refl;
  }

  tells_push : (es : List Entry) (e : Entry) (s new : Server) → Tells config expected es s.machine → ServerStep s e.command e.moment e.reply new → Tells config expected (es ++ (e ∷ [])) new.machine
  tells_push es e s new told step =
      let c = e.command in
      let left = server_leaves s c e.moment e.reply new step in
      let newest_set = newest_where (λ x. is_some (set_by x.command)) es in
      let newest_eviction = newest_where (λ x. is_evict x.command) es in
      record {
        config = left.config ∙ ap (unwrap_or (set_by c)) told.config
            ∙ sym (ap (λ o. option_map_or (λ (x : Entry). unwrap_or (set_by x.command) config) o config) (newest_push (λ x. is_some (set_by x.command)) es e) ∙ settings-cond config c e newest_set refl);
        expected = left.expected ∙ ap (λ n. expected_then n c e.reply) told.expected ∙ sym (expected_push expected es e);
        leases = λ k. said_push k es e (get s.machine.leases k) (get new.machine.leases k) (told.leases k) (server_goes s c e.moment e.reply new step k);
        since = ap since left.marks ∙ since_after (ends_minute c) (is_counted c e.reply) s.machine.marks
            ∙ ap (λ n. cond (ends_minute c) 0 (n + cond (is_counted c e.reply) 1 0)) told.since ∙ sym (since_pushed es e);
        last = ap last left.marks ∙ last_after (ends_minute c) (is_counted c e.reply) s.machine.marks
            ∙ (λ i. cond (ends_minute c) (told.since i) (told.last i)) ∙ sym (last_pushed es e);
        previous = left.previous ∙ ap (cond (is_evict c) (Some e.moment)) told.previous
            ∙ sym (ap (option_map (λ x. x.moment)) (newest_push (λ x. is_evict x.command) es e) ∙ option_map-cond (is_evict c) e newest_eviction);
      }

  tells_on : (past es : List Entry) (s new : Server) → Tells config expected past s.machine → Run s es new → Tells config expected (past ++ es) new.machine
  tells_on past [] s new told run =
      subst (λ x. Tells config expected (past ++ []) x.machine) (sym run) (subst (λ es. Tells config expected es s.machine) (sym (append-nil past)) told)
  tells_on past (e ∷ es) s new told run =
      subst (λ xs. Tells config expected xs new.machine) (append_assoc past (e ∷ []) es) (tells_on (past ++ (e ∷ [])) es run.0 new (tells_push past e s run.0 told run.2) run.3)

  pub run_tells : (peers : ℕ) (es : List Entry) (s : Server) → Run (opened config expected peers) es s → Tells config expected es s.machine
  run_tells peers es s run = tells_on [] es (opened config expected peers) s tells_opening run

-- ---- in the words of the laws

durations_by : (b : Bool) → durations (kind_by b) ≡ cond b 1 2
durations_by true = refl
durations_by false = refl

as_said : (k : Key) (es : List Entry) (lease : Option Record) → Said k es lease → IsAsSaid lease k es
as_said k es None said = record { held = sym said; expired = λ r e. absurd (none-some r e) }
as_said k es (Some r) said = record {
  held = sym said.0;
  expired = λ r' is.
      let touch = said.1.0 in
      let registration = said.2.0 in (
        touch.moment + durations_after k touch.command * duration_by registration.command,
        (λ i. lasts_from k (said.1.1 i) (said.2.1 i)),
        λ t extra.
            ap (λ o. option_map_or (λ x. is_expired x t extra) o false) (sym is)
            ∙ (λ i. nat_lt ((said.1.2 i).at + durations (said.1.2 i).kind * said.2.2 i + extra) t)
            ∙ ap (λ n. nat_lt (touch.moment + n * duration_by registration.command + extra) t) (durations_by (registers k touch.command)),
      );
}

pub leases_are_as_said : LeasesAreAsSaid
leases_are_as_said config expected peers es s run k = as_said k es (get s.machine.leases k) ((run_tells config expected peers es s run).leases k)

pub numbers_are_as_said : NumbersAreAsSaid
numbers_are_as_said config expected peers es s run =
    let told = run_tells config expected peers es s run in
    record { set = told.config; clients = told.expected; renewals = told.last }

pub updates_are_as_said : UpdatesAreAsSaid
updates_are_as_said config expected peers es s t reply new run step =
    let told = run_tells config expected peers es s run in
    let held = len s.machine.leases in
    step.0.0
    ∙ (λ i. Expected (cond (nat_lt ((told.config i).percent * told.expected i) (held * 100) || not (told.config i).preservation) held (told.expected i)))
