-- A change of one lease, in plain form
use Rattle.std.proofs.Common.{◌≡◌, ◌+◌, Bool, true, false, refl, sym, ap, ◌∙◌}
use Rattle.std.specs.Prelude.{cond, Option, Some, None, ◌==◌, ◌^◌, is_some}
use Rattle.std.specs.Option.{option_map}
use Rattle.std.specs.FinMap.{FinMap, get, len, contains_key}
use Rattle.eu_base.specs.declared.faults.Fault.TheVariants.{Full, Exhausted}
use Rattle.eu_base.specs.declared.names.Key.{Key}
use Rattle.eu_base.specs.Values.{key_cmp}
use Rattle.eu_base.proofs.KeyLemmas.{keys_total, keys_exact}
use Rattle.eu_model.specs.declared.views.Listed.{Listed}
use Rattle.eu_model.specs.Machine.{Record, since, last, map_values, Machine}
use Rattle.eu_model.specs.Change.{Change}
use Rattle.eu_model.specs.Step.{changed, marked, join_fault}
use Rattle.eu_model.specs.Plain.{Plain, listed, plain}
use Rattle.eu_model.specs.PlainSteps.{plain_change, after, plain_join_fault}
use Rattle.eu_model.proofs.MarkLemmas.{since_renewal, last_renewal}
use Rattle.eu_model.proofs.MapLemmas.{get-map_values, len-map_values, map_values-with_value}
use Rattle.eu_model.proofs.AnswerLemmas.{IsKept}

last-marked : (counted : Bool) (s : Machine) → last (marked counted s.marks) ≡ last s.marks
last-marked true s = last_renewal s.marks
last-marked false s = refl

since-marked : (counted : Bool) (s : Machine) → since (marked counted s.marks) ≡ cond counted (since s.marks + 1) (since s.marks)
since-marked true s = since_renewal s.marks
since-marked false s = refl

-- the plain form of a changed machine is changed alike
plain-changed : (s : Machine) (k : Key) (change : Change Record) → plain (changed s k change) ≡ after (plain s) k (plain_change change)
plain-changed s k change =
    let leases = map_values-with_value keys_total keys_exact listed s.leases k change.lease in
    let lasts = last-marked change.counted s in
    let sinces = since-marked change.counted s in
    λ i. record (after (plain s) k (plain_change change)) { leases = leases i; last = lasts i; since = sinces i }

-- so a step on the lease at a key is kept, if its change is
pub change_is_kept : (k : Key) (change : Machine → Change Record) (kept_change : Plain → Change Listed) → ((s : Machine) → plain_change (change s) ≡ kept_change (plain s))
    → IsKept (λ s. changed s k (change s)) (λ s. (change s).reply) (λ p. after p k (kept_change p)) (λ p. (kept_change p).reply)
change_is_kept k change kept_change e = record {
  nexts = λ s. plain-changed s k (change s) ∙ ap (after (plain s) k) (e s);
  replies = λ s. ap (λ (c : Change Listed). c.reply) (e s);
}

is_some-map : {X Y : Type 0} (f : X → Y) (o : Option X) → is_some (option_map f o) ≡ is_some o
is_some-map f None = refl
is_some-map f (Some x) = refl

contains-listed : (m : FinMap key_cmp Record) (k : Key) → contains_key (map_values listed m) k ≡ contains_key m k
contains-listed m k = ap is_some (get-map_values key_cmp listed m k) ∙ is_some-map listed (get m k)

pub join_fault-kept : (s : Machine) (k : Key) → join_fault s k ≡ plain_join_fault (plain s) k
join_fault-kept s k =
    ap (λ b. cond b None (cond (len s.leases == 65536) (Some Full) (cond (s.expected == 2 ^ 40) (Some Exhausted) None))) (sym (contains-listed s.leases k))
    ∙ ap (λ n. cond (contains_key (map_values listed s.leases) k) None (cond (n == 65536) (Some Full) (cond (s.expected == 2 ^ 40) (Some Exhausted) None))) (sym (len-map_values key_cmp listed s.leases))

-- the lease at a key, as it is kept
pub held_of : (s : Machine) (k : Key) → option_map listed (get s.leases k) ≡ get (plain s).leases k
held_of s k = sym (get-map_values key_cmp listed s.leases k)
