-- An eviction depends on the plain form alone
use Rattle.std.proofs.Common.{◌≡◌, ℕ, true, false, List, [], ◌∷◌, map, filter, length, refl, sym, ap, ◌∙◌, subst, All, Contains}
use Rattle.std.specs.Prelude.{cond, None, Ok, Err}
use Rattle.std.specs.declared.cmp.Ordering.{Ordering}
use Rattle.std.specs.Cmp.{IsTotalOrder}
use Rattle.std.specs.FinMap.{FinMap, IsAntisymmetric, entries, remove, len}
use Rattle.eu_base.specs.declared.faults.Fault.TheVariants.{OutOfMemory}
use Rattle.eu_base.specs.declared.names.Key.{Key}
use Rattle.eu_base.specs.Values.{key_cmp}
use Rattle.eu_base.proofs.KeyLemmas.{keys_total, keys_exact}
use Rattle.eu_model.specs.declared.views.Listed.{Listed}
use Rattle.eu_model.specs.declared.commands.Command.TheVariants.{Evict}
use Rattle.eu_model.specs.declared.commands.Reply.{Reply}
use Rattle.eu_model.specs.declared.commands.Reply.TheVariants.{Evicted}
use Rattle.eu_model.specs.Machine.{Record, is_expired, map_values, without, Machine, permits}
use Rattle.eu_model.specs.Step.{extra_time, due, number_of_victims, number_evicted, AreVictims, evicted, Step}
use Rattle.eu_model.specs.Plain.{Plain, listed, plain}
use Rattle.eu_model.specs.Answers.{Answers, IsAnswer}
use Rattle.eu_model.specs.PlainSteps.{plain_expired, plain_due, plain_number_evicted, ArePlainVictims, plain_evicted}
use Rattle.eu_model.proofs.MapLemmas.{entries-map_values, len-map_values, map_values-remove}
use Rattle.eu_model.proofs.SeenLemmas.{expired-kept}
use Rattle.eu_model.proofs.AnswerLemmas.{refused}

-- what has expired among entries, as they are kept
keys_due : (t extra : ℕ) (es : List (Key × Record)) →
    map (λ e. e.0) (filter (λ e. is_expired e.1 t extra) es) ≡ map (λ (e : Key × Listed). e.0) (filter (λ (e : Key × Listed). plain_expired e.1 t extra) (map (λ e. (e.0, listed e.1)) es))
keys_due t extra [] = refl
keys_due t extra (e ∷ es) =
    let rest = filter (λ (f : Key × Record). is_expired f.1 t extra) es in
    let kept = filter (λ (f : Key × Listed). plain_expired f.1 t extra) (map (λ (f : Key × Record). (f.0, listed f.1)) es) in
    ap (λ b. map (λ (f : Key × Record). f.0) (cond b (e ∷ rest) rest)) (expired-kept e.1 t extra)
    ∙ elim (plain_expired (listed e.1) t extra) as (λ b. map (λ (f : Key × Record). f.0) (cond b (e ∷ rest) rest) ≡ map (λ (f : Key × Listed). f.0) (cond b ((e.0, listed e.1) ∷ kept) kept)) [
      | true ↦ ap (λ l. e.0 ∷ l) (keys_due t extra es)
      | false ↦ keys_due t extra es
    ]

pub due-kept : (s : Machine) (t : ℕ) → due s t ≡ plain_due (plain s) t
due-kept s t =
    let extra = extra_time s.config s.previous t in
    keys_due t extra (entries s.leases)
    ∙ ap (λ (es : List (Key × Listed)). map (λ (e : Key × Listed). e.0) (filter (λ (e : Key × Listed). plain_expired e.1 t extra) es)) (sym (entries-map_values key_cmp listed s.leases))

pub number-kept : (s : Machine) (t : ℕ) → number_evicted s t ≡ plain_number_evicted (plain s) t
number-kept s t =
    ap (λ ks. number_of_victims s.config (permits s) (length ks) (len s.leases)) (due-kept s t)
    ∙ ap (number_of_victims s.config (permits s) (length (plain_due (plain s) t))) (sym (len-map_values key_cmp listed s.leases))

pub victims-kept : (s : Machine) (t : ℕ) (victims : List Key) → AreVictims s t victims → ArePlainVictims (plain s) t victims
victims-kept s t victims v = record {
  expired = subst (λ ks. All (Contains ks) victims) (due-kept s t) v.expired;
  once = v.once;
  number = v.number ∙ number-kept s t;
}

pub victims-raised : (s : Machine) (t : ℕ) (victims : List Key) → ArePlainVictims (plain s) t victims → AreVictims s t victims
victims-raised s t victims v = record {
  expired = subst (λ ks. All (Contains ks) victims) (sym (due-kept s t)) v.expired;
  once = v.once;
  number = v.number ∙ sym (number-kept s t);
}

module _ {K X Y : Type 0} {R : K → K → Ordering} (o : IsTotalOrder R) (same : IsAntisymmetric R) (f : X → Y) where
  map_values-without : (m : FinMap R X) (ks : List K) → map_values f (without m ks) ≡ without (map_values f m) ks
  map_values-without m [] = refl
  map_values-without m (k ∷ ks) = map_values-without (remove m k) ks ∙ ap (λ n. without n ks) (map_values-remove o same f m k)

pub plain-evicted : (s : Machine) (t : ℕ) (victims : List Key) → plain (evicted s t victims) ≡ plain_evicted (plain s) t victims
plain-evicted s t victims =
    let leases = map_values-without keys_total keys_exact listed s.leases victims in
    λ i. record (plain_evicted (plain s) t victims) { leases = leases i }

-- an eviction is answered so, from each machine of that plain form
pub evict_answers : (t : ℕ) (p : Plain) (victims : List Key) → ArePlainVictims p t victims → Answers p Evict t (Ok (Evicted victims)) (plain_evicted p t victims)
unfolding Answers IsAnswer
evict_answers t p victims v s e = (
  refl,
  (
    evicted s t victims,
    (victims, refl, victims-raised s t victims (subst (λ q. ArePlainVictims q t victims) (sym e) v), refl),
    plain-evicted s t victims ∙ ap (λ q. plain_evicted q t victims) e,
  ),
)

-- or refused for want of memory
pub evict_refused : (t : ℕ) (p : Plain) → Answers p Evict t (Err OutOfMemory) p
evict_refused t p = refused Evict t (λ q. None) (λ s. refl) p OutOfMemory refl

pub evict_alike : (s s' : Machine) (t : ℕ) (reply : Reply) (new : Machine) → plain s ≡ plain s' → Step s Evict t reply new
    → (new' : Machine) × Step s' Evict t reply new' × (plain new' ≡ plain new)
evict_alike s s' t reply new e (victims, is, v, after) = (
  evicted s' t victims,
  (victims, is, victims-raised s' t victims (subst (λ q. ArePlainVictims q t victims) e (victims-kept s t victims v)), refl),
  plain-evicted s' t victims ∙ ap (λ q. plain_evicted q t victims) (sym e) ∙ sym (plain-evicted s t victims) ∙ sym (ap plain after),
)
