-- What is written for tasks says what they ask for
use Rattle.std.proofs.Common.{◌≡◌, ℕ, ◌+◌, ◌<◌, ◌≤◌, ◌^◌, true, false, List, [], ◌∷◌, length, map, Option, Some, None, Ok, codes, decimal, nat_lt, suc, refl, sym, ap, ◌∙◌, subst, arith}
use Rattle.std.specs.List.{AllByRecursion}
use Rattle.std.specs.Prelude.{ok_or}
use Rattle.std.proofs.lemmas.Bool.{le-ltb, lt-ltb}
use Rattle.serde_json.specs.Data.{Data, string, object, member}
use Rattle.serde_json.specs.Events.{items_len}
use Rattle.serde_json.specs.Read.{read}
use Rattle.serde_json.specs.View.{items_of}
use Rattle.eu_base.specs.Values.{action_name, action_of, status_name}
use Rattle.eu_base.specs.declared.faults.Fault.TheVariants.{BadBatch}
use Rattle.eu_base.specs.declared.instances.Instance.{Instance}
use Rattle.eu_base.specs.declared.names.Key.{Key}
use Rattle.eu_base.specs.declared.statuses.Status.{Status}
use Rattle.eu_base.specs.declared.statuses.Status.TheVariants.{Up, Down, Starting, OutOfService, Unknown}
use Rattle.eu_base.specs.declared.tasks.Action.{Action}
use Rattle.eu_base.specs.declared.tasks.Action.TheVariants.{Register, Heartbeat, Cancel, StatusUpdate, DeleteStatusOverride}
use Rattle.eu_base.specs.declared.tasks.Task.{Task}
use Rattle.eu_model.specs.declared.commands.Command.{Command}
use Rattle.eu_model.specs.declared.commands.Command.TheVariants as command
use Rattle.eu_json.specs.Batch.{action_in, app_within, command_of, instance_in, items_in, key_in, name_within, of_item, of_text, or_bad, status_given, status_needed, batch_tree, instance_members, task_tree}
use Rattle.eu_base.specs.Limits.{longest_name, most_sent}
use Rattle.eu_json.specs.Batch as batch
use Rattle.eu_json.specs.BatchLaw.{BatchesComeBack, HasParts, IsKey, IsRead, IsSound, asked_by, command_by}
use Rattle.eu_base.specs.Gives.{result_map}
use Rattle.eu_json.specs.Tree.{is_blank, instance_tree}
use Rattle.eu_json.specs.Reading.{stamp_in}
use Rattle.eu_json.proofs.BackLemmas.{dirty_back, instance_back, status_back, step}
use Rattle.eu_json.proofs.SaidLemmas.{said}

-- ---- names and values

action_back : (a : Action) → ok_or (action_of (action_name a)) BadBatch ≡ Ok a
action_back Register = refl
action_back Heartbeat = refl
action_back Cancel = refl
action_back StatusUpdate = refl
action_back DeleteStatusOverride = refl

needed_back : (s : Status) → status_needed (Some (string (status_name s))) ≡ Ok s
needed_back Up = refl
needed_back Down = refl
needed_back Starting = refl
needed_back OutOfService = refl
needed_back Unknown = refl

name_back : (name : List ℕ) → 0 < length name → length name ≤ longest_name → name_within name ≡ Ok name
name_back name filled few = rw (lt-ltb 0 (length name) filled, lt-ltb (length name) (longest_name + 1) (omega arith)) refl

app_back : (k : Key) → IsKey k → app_within k.app ≡ Ok k.app
unfolding app_within
app_back k key = step (name_within k.app) _ k.app (name_back k.app key.app_filled key.app_short) ∙ ap Ok key.in_capitals

filled : (name : List ℕ) → 0 < length name → is_blank name ≡ false
filled [] low = absurd (omega arith)
filled (b ∷ bs) low = refl

given_back : (s : Status) → status_given (Some (string (status_name s))) ≡ Some s
given_back s = ap Some (status_back Unknown s)

stamp_back : (moment n : ℕ) → n < 2 ^ 63 → result_map Some (stamp_in moment (Some (string (decimal n)))) ≡ Ok (Some n)
stamp_back moment n small = ap (result_map Some) (dirty_back moment n small)

-- ---- an item

abbrev tree_by : Action → Key → Option Status → Option Instance → Data
tree_by a k status instance = object
    (member (codes "action") (string (action_name a))
    (member (codes "appName") (string k.app)
    (member (codes "id") (string k.id) (instance_members a status instance))))

key_back : (a : Action) (k : Key) (status : Option Status) (instance : Option Instance) → IsKey k → key_in (tree_by a k status instance) ≡ Ok k
unfolding key_in
key_back a k status instance key = step (app_within k.app) _ k.app (app_back k key) ∙ step (name_within k.id) _ k.id (name_back k.id key.id_filled key.id_short)

info_back : (moment : ℕ) (k : Key) (i : Instance) → IsKey k → i.key ≡ k → IsRead i → instance_in k.app moment (Some (instance_tree i None)) ≡ Ok i
info_back moment k i key own is_read =
    let from = said i i.key.app is_read.2 is_read.1 is_read.3 in
    let named : is_blank i.key.app ≡ false = subst (λ (q : Key). is_blank q.app ≡ false) (sym own) (filled k.app key.app_filled) in
    subst (λ (q : Key). instance_in q.app moment (Some (instance_tree i None)) ≡ Ok i) own (instance_back i moment from.0 from.1 is_read.0 named)

command_back : (a : Action) (k : Key) (status : Option Status) (instance : Option Instance) → IsKey k → HasParts a k status instance
    → (c : Command) × (command_by a k status instance ≡ Some c) × ((moment : ℕ) → command_of moment (tree_by a k status instance) k a ≡ Ok c)
unfolding command_of
command_back Register k status None key has = absurd has.1
command_back Register k status (Some i) key has =
    (command.Register i true, refl, λ moment. step (instance_in k.app moment (Some (instance_tree i None))) _ i (info_back moment k i key has.1.0 has.1.1))
command_back Heartbeat k status None key has = absurd has.1
command_back Heartbeat k status (Some i) key has =
    (command.Renew k (Some i.last_dirty) (Some i.overridden) true, refl, λ moment. step _ _ (Some i.last_dirty) (stamp_back moment i.last_dirty has.1.1.0) ∙ ap (λ s. Ok (command.Renew k (Some i.last_dirty) s true)) (given_back i.overridden))
command_back Cancel k status instance key has = (command.Cancel k true, refl, λ moment. refl)
command_back StatusUpdate k status None key has = absurd has.1
command_back StatusUpdate k None (Some i) key has = absurd cc
command_back StatusUpdate k (Some s) (Some i) key has =
    (command.SetStatus k s (Some i.last_dirty) true, refl, λ moment. step _ _ s (needed_back s) ∙ step _ _ (Some i.last_dirty) (stamp_back moment i.last_dirty has.1.1.0))
command_back DeleteStatusOverride k status None key has = absurd has.1
command_back DeleteStatusOverride k None (Some i) key has = absurd cc
command_back DeleteStatusOverride k (Some s) (Some i) key has =
    (command.UnsetStatus k (Some s) (Some i.last_dirty) true, refl, λ moment. step _ _ (Some i.last_dirty) (stamp_back moment i.last_dirty has.1.1.0) ∙ ap (λ t. Ok (command.UnsetStatus k t (Some i.last_dirty) true)) (given_back s))

item_back : (t : Task) → IsSound t → (c : Command) × (asked_by t ≡ Some c) × ((moment : ℕ) → of_item moment (task_tree t) ≡ Ok c)
unfolding of_item
item_back t sound =
    let back = command_back t.action t.key t.status t.instance sound.0 sound.1 in (
      back.0,
      back.1,
      λ moment. step (action_in (task_tree t)) _ t.action (action_back t.action)
          ∙ step (key_in (task_tree t)) _ t.key (key_back t.action t.key t.status t.instance sound.0)
          ∙ back.2 moment,
    )

-- ---- the whole

items_back : (ts : List Task) → AllByRecursion IsSound ts
    → (cs : List Command) × (map asked_by ts ≡ map Some cs) × ((moment : ℕ) → batch.of_items moment (items_of (map task_tree ts)) ≡ Ok cs)
items_back [] sound = ([], refl, λ moment. refl)
items_back (t ∷ ts) sound =
    let first = item_back t sound.0 in
    let rest = items_back ts sound.1 in (
      first.0 ∷ rest.0,
      (λ i. first.1 i ∷ rest.1 i),
      λ moment. step (of_item moment (task_tree t)) _ first.0 (first.2 moment)
          ∙ step (batch.of_items moment (items_of (map task_tree ts))) _ rest.0 (rest.2 moment),
    )

as_many : (ts : List Task) → items_len (items_of (map task_tree ts)) ≡ length ts
as_many [] = refl
as_many (t ∷ ts) = ap (λ n. suc n) (as_many ts)

list_back : (ts : List Task) → length ts ≤ most_sent → items_in (batch_tree ts) ≡ Ok (items_of (map task_tree ts))
list_back ts few =
    let within : nat_lt 250 (items_len (items_of (map task_tree ts))) ≡ false = le-ltb 250 (items_len (items_of (map task_tree ts))) (omega (arith, as_many ts)) in
    rw within refl

text_back : (moment : ℕ) (ts : List Task) (text : List ℕ) → length ts ≤ most_sent → read text ≡ Some (batch_tree ts) → of_text moment text ≡ batch.of_items moment (items_of (map task_tree ts))
unfolding of_text
text_back moment ts text few got =
    step (ok_or (read text) BadBatch) _ (batch_tree ts) (ap (λ o. ok_or o BadBatch) got)
    ∙ step (items_in (batch_tree ts)) _ (items_of (map task_tree ts)) (list_back ts few)

pub batches_come_back : BatchesComeBack
batches_come_back ts sound =
    let back = items_back ts sound.sound in
    (back.0, back.1, λ text got moment. ap or_bad (text_back moment ts text sound.few got ∙ back.2 moment))
