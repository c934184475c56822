-- What an eviction takes out is what the machine's victims may be
use Rattle.std.proofs.Common.{◌≡◌, ℕ, Bool, true, false, List, [], ◌∷◌, length, refl, sym, ap, ◌∙◌, subst, All, Contains, arith, min}
use Rattle.std.specs.List.{IsDistinct}
use Rattle.std.specs.FinMap.{FinMap, len}
use Rattle.eu_base.specs.declared.names.Key.{Key}
use Rattle.eu_base.specs.declared.settings.Config.{Config}
use Rattle.eu_base.specs.Values.{key_cmp, key_eq}
use Rattle.eu_model.specs.declared.views.Listed.{Listed}
use Rattle.eu_model.specs.Machine.{share, is_permitted}
use Rattle.eu_model.specs.Step.{number_of_victims, extra_time}
use Rattle.eu_model.specs.Step as model
use Rattle.eu_model.specs.Plain.{Plain}
use Rattle.eu_model.specs.PlainSteps.{plain_due, plain_number_evicted, ArePlainVictims}
use Rattle.eu_model.proofs.EvictLemmas.{due-kept, number-kept}
use Rattle.eu_clock.specs.Front.{Asks, front, state_after}
use Rattle.eu_store.specs.Stored.{expired_keys}
use Rattle.eu_eviction.specs.Eviction.{due, number_of, drawn}
use Rattle.eu_core.specs.Stepped.{Draws}

-- no key of an empty list is in it
All-none : (ks vs : List Key) → length vs ≡ 0 → All (Contains ks) vs
All-none ks [] e = λ k d h. absurd (omega (arith, h))
All-none ks (v ∷ vs) e = absurd (omega (arith, e))

least : (n : ℕ) → min 0 n ≡ 0
least n = omega arith

module _ (c : Config) (L : FinMap key_cmp Listed) (t extra : ℕ) where
  pub number_is : (b : Bool) → number_of c L (due b L t extra) ≡ number_of_victims c b (length (expired_keys L t extra)) (len L)
  number_is true = refl
  number_is false = least (share c (len L))

  expired_is : (b : Bool) (vs : List Key) → length vs ≡ number_of c L (due b L t extra) → All (Contains (due b L t extra)) vs → All (Contains (expired_keys L t extra)) vs
  expired_is true vs n h = h
  expired_is false vs n h = All-none (expired_keys L t extra) vs (n ∙ least (share c (len L)))

  module _ {S : Type 0} (asks : Asks S) (x : S) where
    drawn_is : (b : Bool) → drawn asks c L (due b L t extra) x ≡ front asks (number_of_victims c b (length (expired_keys L t extra)) (len L)) (expired_keys L t extra) x
    drawn_is true = refl
    drawn_is false = ap (λ n. front asks n (let none : List Key = [] in none) x) (least (share c (len L)))

    state_is : (b : Bool) → state_after asks (number_of c L (due b L t extra)) (length (due b L t extra)) x
        ≡ state_after asks (number_of_victims c b (length (expired_keys L t extra)) (len L)) (length (expired_keys L t extra)) x
    state_is true = refl
    state_is false = ap (λ n. state_after asks n 0 x) (least (share c (len L)))

module _ (p : Plain) (t extra : ℕ) (permitted : Bool) (e : extra ≡ extra_time p.config p.previous t) (h : permitted ≡ is_permitted p.config p.expected p.last) where
  number_at : number_of p.config p.leases (due permitted p.leases t extra) ≡ plain_number_evicted p t
  number_at = number_is p.config p.leases t extra permitted ∙ (λ i. number_of_victims p.config (h i) (length (expired_keys p.leases t (e i))) (len p.leases))

  -- the keys that the eviction took are victims
  pub are_victims : (vs : List Key) → All (Contains (due permitted p.leases t extra)) vs → IsDistinct key_eq vs → length vs ≡ number_of p.config p.leases (due permitted p.leases t extra)
      → ArePlainVictims p t vs
  are_victims vs expired once number = record {
    expired = subst (λ x. All (Contains (expired_keys p.leases t x)) vs) e (expired_is p.config p.leases t extra permitted vs number expired);
    once = once;
    number = number ∙ number_at;
  }

  module _ {S : Type 0} (asks : Asks S) (x x' : S) (vs : List Key) where
    -- drawn as the machine's are
    pub draws : vs ≡ drawn asks p.config p.leases (due permitted p.leases t extra) x
        → x' ≡ state_after asks (number_of p.config p.leases (due permitted p.leases t extra)) (length (due permitted p.leases t extra)) x
        → Draws asks p t x vs x'
    draws is after s same =
        let keys : model.due s t ≡ plain_due p t = due-kept s t ∙ ap (λ q. plain_due q t) same in
        let number : model.number_evicted s t ≡ plain_number_evicted p t = number-kept s t ∙ ap (λ q. plain_number_evicted q t) same in (
          is ∙ drawn_is p.config p.leases t extra asks x permitted
              ∙ (λ i. front asks (number_of_victims p.config (h i) (length (expired_keys p.leases t (e i))) (len p.leases)) (expired_keys p.leases t (e i)) x)
              ∙ (λ i. front asks (sym number i) (sym keys i) x),
          after ∙ state_is p.config p.leases t extra asks x permitted
              ∙ (λ i. state_after asks (number_of_victims p.config (h i) (length (expired_keys p.leases t (e i))) (len p.leases)) (length (expired_keys p.leases t (e i))) x)
              ∙ (λ i. state_after asks (sym number i) (length (sym keys i)) x),
        )
