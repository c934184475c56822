-- The trees of what is listed, with the members that the registry adds
use Rattle.std.specs.Prelude.{ℕ, Bool, true, false, List, [], ◌∷◌, option_and_then, unwrap_or, map, Option, Some, None, if◌then◌else◌, decimal, codes}
use Rattle.std.specs.List.{list_any}
use Rattle.std.specs.Str.{bytes_eq}
use Rattle.serde_json.specs.Data.{Data, null, boolean, number, string, array, object, Members, no_members, member, unsigned, put}
use Rattle.serde_json.specs.Find.{get, as_str}
use Rattle.serde_json.specs.View.{items_of}
use Rattle.eu_base.specs.Values.{name_eq, status_name}
use Rattle.eu_base.specs.declared.instances.Instance.{Instance}
use Rattle.eu_model.specs.declared.views.Listed.{Listed}
use Rattle.eu_model.specs.declared.views.Times.{Times}
use Rattle.eu_model.specs.View.{hash_code}

-- ---- members of a JSON object

-- the text of a member; no byte where it is absent or no text
abbrev pub text_at : List ℕ → Data → List ℕ
text_at name d = unwrap_or (option_and_then as_str (get name d)) []

abbrev pub is_blank : List ℕ → Bool
is_blank [] = true
is_blank (b ∷ bs) = false

-- whether a name is one of these
abbrev pub is_among : List (List ℕ) → List ℕ → Bool
is_among names name = list_any (bytes_eq name) names

-- the members but those of these names
abbrev pub but_members : List (List ℕ) → Members → Members
but_members names no_members = no_members
but_members names (member l d ms) = if is_among names l then but_members names ms else member l d (but_members names ms)

-- an object without the members of these names
abbrev pub without : List (List ℕ) → Data → Data
without names null = null
without names (boolean b) = boolean b
without names (number n) = number n
without names (string s) = string s
without names (array ds) = array ds
without names (object ms) = object (but_members names ms)

-- ---- the JSON that is written for instances and listings

-- an object with a member set, in its place by the order of the names
abbrev pub with_member : List ℕ → Data → Data → Data
with_member name d null = null
with_member name d (boolean b) = boolean b
with_member name d (number n) = number n
with_member name d (string s) = string s
with_member name d (array ds) = array ds
with_member name d (object ms) = object (put name d ms)

abbrev pub whole_number : ℕ → Data
whole_number n = number (unsigned n)

-- an object with one member
abbrev pub alone : List ℕ → Data → Data
alone name d = object (member name d no_members)

-- ---- one instance

-- the lease: how long it lasts and how often it is to be renewed, in seconds, and for a listed one its moments. A held lease was never evicted
abbrev pub lease_tree : Instance → Option Times → Data
lease_tree i None = object
    (member (codes "durationInSecs") (whole_number i.secs)
    (member (codes "renewalIntervalInSecs") (whole_number i.interval) no_members))
lease_tree i (Some t) = object
    (member (codes "durationInSecs") (whole_number i.secs)
    (member (codes "evictionTimestamp") (whole_number 0)
    (member (codes "lastRenewalTimestamp") (whole_number t.updated)
    (member (codes "registrationTimestamp") (whole_number t.registered)
    (member (codes "renewalIntervalInSecs") (whole_number i.interval)
    (member (codes "serviceUpTimestamp") (whole_number t.up) no_members))))))

-- the members that the client gave, and those of the registry's own
abbrev pub instance_tree : Instance → Option Times → Data
instance_tree i times =
    with_member (codes "app") (string i.key.app)
    (with_member (codes "instanceId") (string i.key.id)
    (with_member (codes "lastDirtyTimestamp") (string (decimal i.last_dirty))
    (with_member (codes "leaseInfo") (lease_tree i times)
    (with_member (codes "overriddenStatus") (string (status_name i.overridden))
    (with_member (codes "status") (string (status_name i.status)) i.rest)))))

abbrev pub held_tree : Instance → Option Times → Data
held_tree i times = alone (codes "instance") (instance_tree i times)

-- ---- listings

abbrev pub list_tree : List Data → Data
list_tree ds = array (items_of ds)

-- a held lease, with its moments
abbrev pub listed_tree : Listed → Data
listed_tree l = instance_tree l.instance (Some l.times)

-- the application of the first
abbrev pub app_of : List Listed → List ℕ
app_of [] = []
app_of (l ∷ ls) = l.instance.key.app

-- the leases of one application
abbrev pub item_tree : List Listed → Data
item_tree held = object
    (member (codes "instance") (list_tree (map listed_tree held))
    (member (codes "name") (string (app_of held)) no_members))

abbrev pub application_tree : List Listed → Data
application_tree held = alone (codes "application") (item_tree held)

abbrev pub same_app : Listed → Listed → Bool
same_app l m = name_eq l.instance.key.app m.instance.key.app

-- a lease before the runs of those that follow it
abbrev pub before_runs : Listed → List (List Listed) → List (List Listed)
before_runs l [] = (l ∷ []) ∷ []
before_runs l ([] ∷ runs) = (l ∷ []) ∷ runs
before_runs l ((m ∷ run) ∷ runs) = if same_app l m then (l ∷ m ∷ run) ∷ runs else (l ∷ []) ∷ (m ∷ run) ∷ runs

-- the leases in their order, cut where one of another application follows
abbrev pub runs : List Listed → List (List Listed)
runs [] = []
runs (l ∷ ls) = before_runs l (runs ls)

-- everything that is held: an item for each application, and how many instances have each status
abbrev pub applications_tree : List Listed → Data
applications_tree held = alone (codes "applications") (object
    (member (codes "application") (list_tree (map item_tree (runs held)))
    (member (codes "apps__hashcode") (string (hash_code held))
    (member (codes "versions__delta") (string (codes "1")) no_members))))
