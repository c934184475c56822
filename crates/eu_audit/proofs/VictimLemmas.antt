-- Victims that are taken out one after the other are those of an eviction
use Rattle.std.proofs.Common.{◌≡◌, ℕ, Bool, true, false, ◌&&◌, List, [], ◌∷◌, length, refl, sym, ap, ◌∙◌, subst, Contains, true≢false, get_or}
use Rattle.std.specs.Prelude.{Option, Some, None, cond}
use Rattle.std.specs.Option.{option_map_or}
use Rattle.std.specs.List.{IsDistinct, AllByRecursion}
use Rattle.std.specs.Ordering.{eq_by_cmp}
use Rattle.std.specs.Cmp.{eq_by_cmp_equiv}
use Rattle.std.proofs.lemmas.List.Elements.{All-contains, All-from_recursion, recursion_from_All}
use Rattle.std.specs.FinMap.{FinMap, get, remove, entries, entries_sorted, get-entries, get-remove}
use Rattle.eu_base.specs.declared.names.Key.{Key}
use Rattle.eu_base.specs.Values.{key_cmp, key_eq}
use Rattle.eu_base.proofs.KeyLemmas.{keys_total, key_eq-ties}
use Rattle.eu_model.specs.declared.views.Listed.{Listed}
use Rattle.eu_model.specs.PlainSteps.{plain_expired, PlainStep, plain_number_evicted, ArePlainVictims, plain_evicted}
use Rattle.eu_model.proofs.EvictionLemmas.{passing, found, victims_are}
use Rattle.eu_model.proofs.EvictionLemmas as pass
use Rattle.eu_audit.specs.Victims.{takes}
use Rattle.eu_audit.specs.Verdict.{Judged}
use Rattle.eu_audit.proofs.JudgeLemmas.{rejudged}
use Rattle.eu_model.specs.Plain.{Plain}
use Rattle.eu_model.specs.Step.{extra_time}
use Rattle.eu_model.specs.declared.commands.Command.TheVariants.{Evict}
use Rattle.eu_model.specs.declared.commands.Reply.TheVariants.{Evicted}

module _ (t extra : ℕ) where
  abbrev late : Listed → Bool
  late l = plain_expired l t extra

  abbrev due : FinMap key_cmp Listed → List Key
  due m = passing late (entries m)

  abbrev is_due : FinMap key_cmp Listed → Key → Bool
  is_due m k = option_map_or late (get m k) false

  due_in : (m : FinMap key_cmp Listed) (k : Key) → Contains (due m) k → is_due m k ≡ true
  due_in m k inside =
      let p = All-contains (pass.Passes late (entries m)) (due m) k (pass.passes late (entries m) (entries_sorted m)) inside in
      ap (λ o. option_map_or late o false) (get-entries m k ∙ p.1) ∙ p.2

  in_due : (m : FinMap key_cmp Listed) (k : Key) → is_due m k ≡ true → Contains (due m) k
  in_due m k is = by (get m k) refl is
    where
      by : (o : Option Listed) → get m k ≡ o → option_map_or late o false ≡ true → Contains (due m) k
      by None at is = absurd (true≢false (sym is))
      by (Some l) at is = found late (entries m) k l (sym (get-entries m k) ∙ at) is

  unless : (b : Bool) (o : Option Listed) → option_map_or late (cond b None o) false ≡ cond b false (option_map_or late o false)
  unless true o = refl
  unless false o = refl

  -- what is due when a key is gone
  due-remove : (m : FinMap key_cmp Listed) (k v : Key) → is_due (remove m k) v ≡ cond (key_eq v k) false (is_due m v)
  due-remove m k v =
      ap (λ o. option_map_or late o false) (get-remove keys_total m k v) ∙ unless (eq_by_cmp key_cmp v k) (get m v)
      ∙ ap (λ b. cond b false (is_due m v)) (sym (key_eq-ties v k))

  other : (b c : Bool) → cond b false c ≡ true → (b ≡ false) × (c ≡ true)
  other true c is = absurd (true≢false (sym is))
  other false c is = (refl, is)

  same-sides : (k v : Key) → key_eq v k ≡ false → key_eq k v ≡ false
  same-sides k v e = key_eq-ties k v ∙ (eq_by_cmp_equiv keys_total).symm k v ∙ sym (key_eq-ties v k) ∙ e

  abbrev AllDue : FinMap key_cmp Listed → List Key → Type 0
  AllDue m ks = AllByRecursion (λ k. is_due m k ≡ true) ks

  -- those of what is left are due before, and none of them is the key
  left : (m : FinMap key_cmp Listed) (k : Key) (ks : List Key) → AllDue (remove m k) ks → AllByRecursion (λ v. key_eq k v ≡ false) ks × AllDue m ks
  left m k [] all = (tt, tt)
  left m k (v ∷ ks) (one, all) =
      let is = other (key_eq v k) (is_due m v) (sym (due-remove m k v) ∙ one) in
      let rest = left m k ks all in
      ((same-sides k v is.0, rest.0), (is.1, rest.1))

  kept : (m : FinMap key_cmp Listed) (k : Key) (ks : List Key) → AllByRecursion (λ v. key_eq k v ≡ false) ks → AllDue m ks → AllDue (remove m k) ks
  kept m k [] apart all = tt
  kept m k (v ∷ ks) (one, apart) (is, all) =
      (due-remove m k v ∙ ap (λ b. cond b false (is_due m v)) (same-sides v k one) ∙ is, kept m k ks apart all)

  both : (a b : Bool) → a && b ≡ true → (a ≡ true) × (b ≡ true)
  both true b is = (refl, is)
  both false b is = absurd (true≢false (sym is))

  taken : (m : FinMap key_cmp Listed) (ks : List Key) → takes m t extra ks ≡ true → AllDue m ks × IsDistinct key_eq ks
  unfolding IsDistinct
  taken m [] is = (tt, tt)
  taken m (k ∷ ks) is =
      let two = both (is_due m k) (takes (remove m k) t extra ks) is in
      let rest = taken (remove m k) ks two.1 in
      let apart = left m k ks rest.0 in
      ((two.0, apart.1), (apart.0, rest.1))

  takes_them : (m : FinMap key_cmp Listed) (ks : List Key) → AllDue m ks → IsDistinct key_eq ks → takes m t extra ks ≡ true
  unfolding IsDistinct
  takes_them m [] all once = refl
  takes_them m (k ∷ ks) (is, all) (apart, once) =
      ap (λ b. b && takes (remove m k) t extra ks) is ∙ takes_them (remove m k) ks (kept m k ks apart all) once

-- ---- an eviction is judged

module _ (p : Plain) (t : ℕ) where
  abbrev extra : ℕ
  extra = extra_time p.config p.previous t

  are_victims : (vs : List Key) → length vs ≡ plain_number_evicted p t → takes p.leases t extra vs ≡ true → ArePlainVictims p t vs
  are_victims vs number is =
      let both = taken t extra p.leases vs is in
      let each = All-from_recursion (λ k. is_due t extra p.leases k ≡ true) vs both.0 in
      record { expired = λ i d lt. in_due t extra p.leases (get_or vs i d) (each i d lt); once = both.1; number = number }

  are_taken : (vs : List Key) → ArePlainVictims p t vs → takes p.leases t extra vs ≡ true
  are_taken vs v =
      takes_them t extra p.leases vs
      (recursion_from_All (λ k. is_due t extra p.leases k ≡ true) vs (λ i d lt. due_in t extra p.leases (get_or vs i d) (v.expired i d lt))) v.once

  -- of the reply that tells these victims
  abbrev pub Passes : List Key → Plain → Type 0
  Passes vs new = (takes p.leases t extra vs ≡ true) × (new ≡ plain_evicted p t vs)

  -- the victims that a reply tells are as many as they should be
  pub by_victims : (vs : List Key) → length vs ≡ plain_number_evicted p t → (next : Option Plain) → Judged (Passes vs) next → Judged (PlainStep p Evict t (Evicted vs)) next
  by_victims vs number next judged = rejudged (Passes vs) (PlainStep p Evict t (Evicted vs)) there back next judged
    where
      there : (new : Plain) → Passes vs new → PlainStep p Evict t (Evicted vs) new
      there new led = (vs, refl, are_victims vs number led.0, led.1)

      back : (new : Plain) → PlainStep p Evict t (Evicted vs) new → Passes vs new
      back new (ws, is, v, to) =
          let same = sym (victims_are vs ws is) in
          (are_taken vs (subst (ArePlainVictims p t) same v), to ∙ ap (plain_evicted p t) same)
