-- A batch that is sent is read of its own text
use Rattle.std.proofs.Common.{◌≡◌, ℕ, ◌<◌, ◌≤◌, ◌^◌, true, false, List, [], ◌∷◌, ◌||◌, map, Option, Some, None, codes, refl, sym, ap, ap₂, subst, arith}
use Rattle.std.specs.List.{AllByRecursion}
use Rattle.std.specs.Prelude.{Ok}
use Rattle.std.proofs.lemmas.Bool.Decides.{nat_tests}
use Rattle.serde_json.specs.Data.{Data, object, Members, depth}
use Rattle.serde_json.specs.Read.{max_depth}
use Rattle.serde_json.specs.View.{items_of}
use Rattle.serde_json.specs.Written.{has_float, items_have_float}
use Rattle.eu_base.specs.declared.instances.Instance.{Instance}
use Rattle.eu_base.specs.declared.names.Key.{Key}
use Rattle.eu_base.specs.declared.statuses.Status.{Status}
use Rattle.eu_base.specs.declared.tasks.Action.{Action}
use Rattle.eu_base.specs.declared.tasks.Action.TheVariants.{Register}
use Rattle.eu_base.specs.declared.tasks.Task.{Task}
use Rattle.eu_text.specs.Fit.{is_fit}
use Rattle.eu_text.proofs.OrderLemmas.{IsBelow}
use Rattle.eu_json.specs.Batch.{batch_tree, instance_members, task_tree}
use Rattle.eu_json.specs.BatchLaw.{HasParts, IsBatch, IsRead, IsSound}
use Rattle.eu_json.specs.Reading.{interval_within, secs_within}
use Rattle.eu_json.specs.Tree.{instance_tree, lease_tree}
use Rattle.eu_json.proofs.BackLemmas.{sets, tree_is, whole_back}
use Rattle.eu_json.proofs.KeptLemmas.{puts}
use Rattle.eu_text.proofs.FitLemmas.{IsOrdered, ItemsOrdered, MembersOrdered, fit_put, ordered_fits}
use Rattle.eu_json.proofs.SaidLemmas.{IsSaid, said}

-- in order, and of whole numbers
abbrev IsTold : Data → Type 0
IsTold d = IsOrdered d × (has_float d ≡ false)

-- ---- an instance

secs_small : (n : ℕ) → secs_within n ≡ Ok n → n < 2 ^ 64
secs_small n is = grind (arith, nat_tests, is)

interval_small : (n : ℕ) → interval_within n ≡ n → n < 2 ^ 64
interval_small n is = grind (arith, nat_tests, is)

lease_in_order : (i : Instance) (ms : Members) → IsSaid i ms → IsOrdered (lease_tree i None)
lease_in_order i ms of = ((refl, tt), secs_small i.secs of.secs, (tt, interval_small i.interval of.interval, tt))

puts_in_order : (ps : List (List ℕ × Data)) (ms : Members) → MembersOrdered ms → AllByRecursion (λ p. IsOrdered p.1) ps → MembersOrdered (puts ps ms)
puts_in_order [] ms order each = order
puts_in_order (p ∷ ps) ms order each = fit_put p.0 p.1 (puts ps ms) each.0 (puts_in_order ps ms order each.1)

said_told : (i : Instance) (ms : Members) → IsSaid i ms → IsTold (instance_tree i None)
said_told i ms of =
    let order = puts_in_order (sets i) ms of.order (tt, (tt, (tt, (lease_in_order i ms of, (tt, (tt, tt)))))) in
    subst IsTold (sym (tree_is i ms of.rest)) (order, whole_back i ms of)

instance_told : (i : Instance) → IsRead i → IsTold (instance_tree i None)
instance_told i is_read = let from = said i i.key.app is_read.2 is_read.1 is_read.3 in said_told i from.0 from.1

-- ---- a task

members_told : (a : Action) (k : Key) (status : Option Status) (instance : Option Instance) → HasParts a k status instance → IsTold (object (instance_members a status instance))
members_told a k status None has = (tt, refl)
members_told Register k status (Some i) has =
    let info = instance_told i has.1.1 in
    (((refl, (refl, (refl, tt))), info.0, ((refl, (refl, tt)), tt, ((refl, tt), tt, (tt, tt, tt)))), rw info.1 refl)
members_told a k status (Some i) has = (((refl, (refl, tt)), tt, ((refl, tt), tt, (tt, tt, tt))), refl)

-- the names of its own three members stand before theirs
abbrev AreBehind : Members → Type 0
AreBehind ms = IsBelow (codes "action") ms × IsBelow (codes "appName") ms × IsBelow (codes "id") ms

behind : (a : Action) (status : Option Status) (instance : Option Instance) → AreBehind (instance_members a status instance)
behind a status None = (tt, tt, tt)
behind Register status (Some i) = ((refl, (refl, (refl, (refl, tt)))), (refl, (refl, (refl, (refl, tt)))), (refl, (refl, (refl, (refl, tt)))))
behind a status (Some i) = ((refl, (refl, (refl, tt))), (refl, (refl, (refl, tt))), (refl, (refl, (refl, tt))))

task_told : (t : Task) → IsSound t → IsTold (task_tree t)
task_told t sound =
    let below = behind t.action t.status t.instance in
    let told = members_told t.action t.key t.status t.instance sound.1 in
    (((refl, (refl, below.0)), tt, ((refl, below.1), tt, (below.2, tt, told.0))), told.1)

-- ---- the whole

items_told : (ts : List Task) → AllByRecursion IsSound ts → ItemsOrdered (items_of (map task_tree ts)) × (items_have_float (items_of (map task_tree ts)) ≡ false)
items_told [] sound = (tt, refl)
items_told (t ∷ ts) sound =
    let first = task_told t sound.0 in
    let rest = items_told ts sound.1 in
    ((first.0, rest.0), ap₂ (◌||◌) first.1 rest.1)

pub batch_fits : (ts : List Task) → IsBatch ts → depth (batch_tree ts) ≤ max_depth → is_fit (batch_tree ts) ≡ true
batch_fits ts batch within =
    let told = items_told ts batch.sound in
    ordered_fits max_depth (batch_tree ts) (tt, told.0, tt) (ap (λ b. b || false) told.1) within
