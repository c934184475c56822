-- The evictions of runs, in the words of the entries before them
use Rattle.std.proofs.Common.{◌≡◌, ℕ, ◌+◌, ◌-◌, ◌≤◌, ◌<◌, Bool, true, false, T, List, refl, sym, ap, ◌∙◌, subst, length, take, Contains, All, min, arith}
use Rattle.std.specs.Prelude.{cond, nat_lt, ◌&&◌, Option, Some, None, is_some}
use Rattle.std.specs.Option.{option_map_or}
use Rattle.std.specs.FinMap.{get, len}
use Rattle.std.specs.List.{IsDistinct}
use Rattle.std.proofs.lemmas.Bool.{and_parts, ltb-true}
use Rattle.std.proofs.lemmas.List.{length-take, map-id}
use Rattle.std.proofs.lemmas.List.Elements.{All-take, All-contains, All-contains_itself}
use Rattle.eu_base.specs.declared.names.Key.{Key}
use Rattle.eu_base.specs.declared.settings.Config.{Config}
use Rattle.eu_base.specs.Values.{key_eq}
use Rattle.eu_model.specs.declared.commands.Entry.{Entry}
use Rattle.eu_model.specs.Machine.{share, Machine, permits}
use Rattle.eu_model.specs.Step.{extra_time, due, number_evicted, AreVictims, evicted}
use Rattle.eu_model.specs.History.{is_held, lasts_until, settings, wanted, allows, most, granted, is_due, renewals_of_last_minute}
use Rattle.eu_model.specs.RunLaw.{IsAsSaid, DueAreAsSaid, WhoRenewsIsKept, EvictionsAreNeverRefused, EvictionsTakeTheirNumber, PreservationKeepsAll}
use Rattle.eu_model.proofs.EvictionLemmas.{due_expired, expired_due, due_once, IsDistinct-take, victims_are, victims_have_expired, preservation_forbids, number_of}
use Rattle.eu_model.proofs.HistoryLemmas.{Tells, run_tells, leases_are_as_said}

pub some_of : {X : Type 0} (o : Option X) → is_some o ≡ true → (x : X) × (o ≡ Some x)
some_of None is = absurd (subst T (sym is) tt)
some_of (Some x) is = (x, refl)

-- the extra time is what the entries say that is granted
extra_is : (c : Config) (previous : Option ℕ) (t : ℕ) → extra_time c previous t ≡ option_map_or (λ p. t - p - c.evict_ms) previous 0
extra_is c None t = refl
extra_is c (Some p) t = refl

module _ (config : Config) (expected : ℕ) (es : List Entry) (s : Machine) (told : Tells config expected es s) (t : ℕ) where
  pub extra_granted : extra_time s.config s.previous t ≡ granted (settings config es) es t
  extra_granted = extra_is s.config s.previous t ∙ (λ i. option_map_or (λ p. t - p - (told.config i).evict_ms) (told.previous i) 0)

  module _ (k : Key) (said : IsAsSaid (get s.leases k) k es) where
    said_due : Contains (due s t) k → is_due (settings config es) es t k ≡ true
    said_due inside =
        let expired = due_expired s t k inside in
        let lasts = said.expired expired.0 expired.1 in
        let held : is_held k es ≡ true = sym said.held ∙ ap is_some expired.1 in
        (λ i. held i && option_map_or (λ until. nat_lt (until + sym extra_granted i) t) (lasts.1 i) false)
        ∙ sym (lasts.2 t (extra_time s.config s.previous t)) ∙ expired.2

    due_said : is_due (settings config es) es t k ≡ true → Contains (due s t) k
    due_said is =
        let parts = and_parts (is_held k es) (option_map_or (λ until. nat_lt (until + granted (settings config es) es t) t) (lasts_until k es) false) is in
        let lease = some_of (get s.leases k) (said.held ∙ parts.0) in
        let lasts = said.expired lease.0 lease.1 in
        expired_due s t k lease.0 lease.1 (
        lasts.2 t (extra_time s.config s.previous t)
        ∙ (λ i. option_map_or (λ until. nat_lt (until + extra_granted i) t) (sym lasts.1 i) false)
        ∙ parts.1)

pub due_are_as_said : DueAreAsSaid
due_are_as_said config expected peers es s run t =
    let told = run_tells config expected peers es s run in (
      due_once s.machine t,
      λ k.
          let said = leases_are_as_said config expected peers es s run k in
          (said_due config expected es s.machine told t k said, due_said config expected es s.machine told t k said),
    )

pub who_renews_is_kept : WhoRenewsIsKept
who_renews_is_kept config expected peers es s t victims new run step k inside =
    let told = run_tells config expected peers es s run in
    let expired = victims_have_expired s.machine t victims new.machine step.0 k inside in
    let lasts = (leases_are_as_said config expected peers es s run k).expired expired.0 expired.1 in
    let extra = extra_time s.machine.config s.machine.previous t in
    let past : lasts.0 + extra < t = ltb-true (lasts.0 + extra) t (sym (lasts.2 t extra) ∙ expired.2) in
    (lasts.0, lasts.1, subst (λ x. lasts.0 + x < t) (extra_granted config expected es s.machine told t) past)

-- ---- the number of victims

fewest : (b : Bool) (m n : ℕ) → cond b (min m n) 0 ≤ m
fewest true m n = omega arith
fewest false m n = omega arith

-- the first that are due are victims
some_victims : (s : Machine) (t : ℕ) → AreVictims s t (take (number_evicted s t) (due s t))
some_victims s t = record {
  expired = All-take (Contains (due s t)) (number_evicted s t) (due s t) (All-contains_itself (due s t));
  once = IsDistinct-take (number_evicted s t) (due s t) (due_once s t);
  number = omega (arith, length-take (number_evicted s t) (due s t), fewest (permits s) (length (due s t)) (share s.config (len s.leases)));
}

pub evictions_are_never_refused : EvictionsAreNeverRefused
evictions_are_never_refused s t =
    let victims = take (number_evicted s.machine t) (due s.machine t) in
    (refl, (victims, record s { machine = evicted s.machine t victims }, ((victims, refl, some_victims s.machine t, refl), sym (map-id s.queues))))

pub evictions_take_their_number : EvictionsTakeTheirNumber
evictions_take_their_number config expected peers es s t victims new run step =
    let told = run_tells config expected peers es s run in
    let are = step.0.2 in
    let same = sym (victims_are victims step.0.0 step.0.1) in
    record {
      once = subst (λ vs. IsDistinct key_eq vs) same are.once;
      expired = λ k inside. All-contains (Contains (due s.machine t)) victims k (subst (λ vs. All (Contains (due s.machine t)) vs) same are.expired) inside;
      number = number_of s.machine t victims step.0.0 step.0.1 are
          ∙ (λ i. cond (allows (told.config i) (told.expected i) (told.last i)) (min (length (due s.machine t)) (most (told.config i) (len s.machine.leases))) 0);
    }

pub preservation_keeps_all : PreservationKeepsAll
preservation_keeps_all config expected peers es s t victims new run step on few =
    let told = run_tells config expected peers es s run in
    preservation_forbids s.machine t victims new.machine step.0 (ap (λ c. c.preservation) told.config ∙ on)
    (subst (λ n. n ≤ wanted s.machine.config s.machine.expected) (sym told.last)
    (subst (λ n. renewals_of_last_minute es ≤ n) (λ i. wanted (sym told.config i) (sym told.expected i)) few))
