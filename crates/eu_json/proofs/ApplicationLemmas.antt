-- In key order the runs of a listing are the leases of its applications
use Rattle.std.proofs.Common.{◌≡◌, ℕ, Bool, true, false, T, cond, List, [], ◌∷◌, ◌++◌, map, refl, sym, ap, ◌∙◌, subst}
use Rattle.std.specs.Prelude.{⊤, codes, ◌&&◌}
use Rattle.std.specs.List.{flat_map}
use Rattle.std.specs.declared.cmp.Ordering.{Ordering}
use Rattle.std.specs.declared.cmp.Ordering.TheVariants.{Less, Equal, Greater}
use Rattle.std.specs.Ordering.{is_eq, is_lt, ordering_then, ordering_reverse}
use Rattle.std.specs.FinMap.{entries, entries_sorted, entries-insert, is_sorted, len-entries, len-empty}
use Rattle.std.specs.FinMap.Entries.{put, by_order, below_all}
use Rattle.std.proofs.lemmas.Cmp.{alike_right, tied_itself}
use Rattle.std.proofs.lemmas.List.{nil_from_length}
use Rattle.serde_json.specs.Data.{Data, string, object, no_members, member}
use Rattle.eu_base.specs.declared.names.Key.{Key}
use Rattle.eu_base.specs.Values.{name_cmp, name_eq, key_cmp}
use Rattle.eu_base.proofs.KeyLemmas.{names_total, names_exact, name_eq-ties}
use Rattle.eu_model.specs.declared.views.Listed.{Listed}
use Rattle.eu_model.proofs.EvictionLemmas.{first, second, less}
use Rattle.eu_json.specs.Tree.{app_of, list_tree, listed_tree, item_tree, same_app, before_runs, runs}
use Rattle.eu_json.specs.ListingLaw.{by_application, applications, leases_of, item_of, IsInKeyOrder, ItemsAreOfApplications, LeasesAreOfApplications}

-- ---- names

abbrev name_of : Listed → List ℕ
name_of l = l.instance.key.app

own_name : (a : List ℕ) → name_eq a a ≡ true
own_name a = name_eq-ties a a ∙ ap is_eq (tied_itself names_total a)

below_differs : (a b : List ℕ) → name_cmp a b ≡ Less → name_eq a b ≡ false
below_differs a b is = name_eq-ties a b ∙ ap is_eq is

above_differs : (a b : List ℕ) → name_cmp b a ≡ Less → name_eq a b ≡ false
above_differs a b is = name_eq-ties a b ∙ ap is_eq (names_total.antisymm a b ∙ ap ordering_reverse is)

-- a name below the application of a key is below that of each later key
below_later : (a : List ℕ) (j k : Key) → name_cmp a j.app ≡ Less → key_cmp j k ≡ Less → name_cmp a k.app ≡ Less
below_later a j k low later =
    elim (name_cmp j.app k.app) as (λ o. name_cmp j.app k.app ≡ o → ordering_then o (name_cmp j.id k.id) ≡ Less → name_cmp a k.app ≡ Less) [
      | Less ↦ λ is e. names_total.trans a j.app k.app low is
      | Equal ↦ λ is e. sym (alike_right names_total j.app k.app a is) ∙ low
      | Greater ↦ λ is e. absurd (subst (λ o. T (is_lt o)) (sym e) tt)
    ] refl later

-- ---- leases in key order

abbrev Rises : List Listed → Type 0
Rises held = T (is_sorted key_cmp (map (λ l. (l.instance.key, l)) held))

abbrev is_before : Listed → List Listed → Bool
is_before l ls = below_all key_cmp l.instance.key (map (λ m. (m.instance.key, m)) ls)

abbrev Below : List ℕ → List (List ℕ × Listed) → Type 0
Below a es = T (below_all name_cmp a es)

-- a lease of another application is passed over
skipped : (l : Listed) (ls : List Listed) (a : List ℕ) → name_eq (name_of l) a ≡ false → leases_of (l ∷ ls) a ≡ leases_of ls a
skipped l ls a apart = ap (λ b. cond b (l ∷ leases_of ls a) (leases_of ls a)) apart

-- and one of this one is taken
taken : (l : Listed) (ls : List Listed) → leases_of (l ∷ ls) (name_of l) ≡ l ∷ leases_of ls (name_of l)
taken l ls = ap (λ b. cond b (l ∷ leases_of ls (name_of l)) (leases_of ls (name_of l))) (own_name (name_of l))

-- behind a lease none is of an application below its own
none_behind : (a : List ℕ) (l : Listed) (ls : List Listed) → name_cmp a (name_of l) ≡ Less → T (is_before l ls) → leases_of ls a ≡ []
none_behind a l [] low before = refl
none_behind a l (m ∷ ls) low before =
    let order = key_cmp l.instance.key m.instance.key in
    let after = below_later a l.instance.key m.instance.key low (less order (first (is_lt order) (is_before l ls) before)) in
    skipped m ls a (above_differs (name_of m) a after) ∙ none_behind a l ls low (second (is_lt order) (is_before l ls) before)

-- ---- the names of a map's entries

abbrev names : List (List ℕ × Listed) → List (List ℕ)
names es = map (λ e. e.0) es

-- each has leases, the first of which is of that name
abbrev AreNamed : List Listed → List (List ℕ × Listed) → Type 0
AreNamed held [] = ⊤
AreNamed held (e ∷ es) = (app_of (leases_of held e.0) ≡ e.0) × AreNamed held es

-- a lease of a lower application is none of theirs
module _ (l : Listed) (ls : List Listed) where
  lower : (a : List ℕ) (es : List (List ℕ × Listed)) → T (is_lt (name_cmp (name_of l) a) && below_all name_cmp (name_of l) es) → leases_of (l ∷ ls) a ≡ leases_of ls a
  lower a es low =
      let order = name_cmp (name_of l) a in
      skipped l ls a (below_differs (name_of l) a (less order (first (is_lt order) (below_all name_cmp (name_of l) es) low)))

  behind : (a : List ℕ) (es : List (List ℕ × Listed)) → T (is_lt (name_cmp (name_of l) a) && below_all name_cmp (name_of l) es) → Below (name_of l) es
  behind a es low = second (is_lt (name_cmp (name_of l) a)) (below_all name_cmp (name_of l) es) low

  same_leases : (es : List (List ℕ × Listed)) → Below (name_of l) es → map (leases_of (l ∷ ls)) (names es) ≡ map (leases_of ls) (names es)
  same_leases [] low = refl
  same_leases (e ∷ es) low =
      let here = lower e.0 es low in
      let others = same_leases es (behind e.0 es low) in
      λ i. here i ∷ others i

  same_names : (es : List (List ℕ × Listed)) → Below (name_of l) es → AreNamed ls es → AreNamed (l ∷ ls) es
  same_names [] low named = tt
  same_names (e ∷ es) low named = (ap app_of (lower e.0 es low) ∙ named.0, same_names es (behind e.0 es low) named.1)

-- ---- the runs

-- what is so of leases in key order: the first name is that of the first lease, and the runs are the leases of the names
record IsGrouped (l : Listed) (ls : List Listed) : Type 0 where
  value : Listed
  others : List (List ℕ × Listed)
  are : entries (by_application (l ∷ ls)) ≡ (name_of l, value) ∷ others
  cut : runs (l ∷ ls) ≡ map (leases_of (l ∷ ls)) (name_of l ∷ names others)
  named : AreNamed (l ∷ ls) ((name_of l, value) ∷ others)

-- the entries ascend
ascend : (held : List Listed) (e : List ℕ × Listed) (es : List (List ℕ × Listed)) → entries (by_application held) ≡ e ∷ es → Below e.0 es
ascend held e es are = first (below_all name_cmp e.0 es) (is_sorted name_cmp es) (subst (λ xs. T (is_sorted name_cmp xs)) are (entries_sorted (by_application held)))

-- a lease before others of which it is so: those behind it in the run of the next, and the further runs
module _ (l m : Listed) (ls : List Listed) (g : IsGrouped m ls) where
  abbrev next : List Listed
  next = leases_of ls (name_of m)

  abbrev further : List (List Listed)
  further = map (leases_of (m ∷ ls)) (names g.others)

  entries_by : (o : Ordering) → name_cmp (name_of l) (name_of m) ≡ o
      → entries (by_application (l ∷ m ∷ ls)) ≡ by_order o ((name_of l, l) ∷ (name_of m, g.value) ∷ g.others) ((name_of m, l) ∷ g.others) ((name_of m, g.value) ∷ put name_cmp (name_of l) l g.others)
  entries_by o is =
      entries-insert names_total (by_application (m ∷ ls)) (name_of l) l ∙ ap (put name_cmp (name_of l) l) g.are
      ∙ ap (λ r. by_order r ((name_of l, l) ∷ (name_of m, g.value) ∷ g.others) ((name_of m, l) ∷ g.others) ((name_of m, g.value) ∷ put name_cmp (name_of l) l g.others)) is

  runs_by : (b : Bool) → name_eq (name_of l) (name_of m) ≡ b → runs (l ∷ m ∷ ls) ≡ cond b ((l ∷ m ∷ next) ∷ further) ((l ∷ []) ∷ (m ∷ next) ∷ further)
  runs_by b is = ap (before_runs l) (g.cut ∙ ap (λ r. r ∷ further) (taken m ls)) ∙ ap (λ c. cond c ((l ∷ m ∷ next) ∷ further) ((l ∷ []) ∷ (m ∷ next) ∷ further)) is

  -- one of a lower application has a run of its own
  grouped_alone : name_cmp (name_of l) (name_of m) ≡ Less → T (is_before m ls) → IsGrouped l (m ∷ ls)
  grouped_alone low before =
      let es = (name_of m, g.value) ∷ g.others in
      let are = entries_by Less low in
      let below = ascend (l ∷ m ∷ ls) (name_of l, l) es are in
      let none = skipped m ls (name_of l) (above_differs (name_of m) (name_of l) low) ∙ none_behind (name_of l) m ls low before in
      let mine = taken l (m ∷ ls) ∙ ap (λ run. l ∷ run) none in
      let others = ap (λ r. r ∷ further) (sym (taken m ls)) ∙ sym (same_leases l (m ∷ ls) es below) in
      record {
        value = l;
        others = es;
        are = are;
        cut = runs_by false (below_differs (name_of l) (name_of m) low) ∙ (λ i. sym mine i ∷ others i);
        named = (ap app_of mine, same_names l (m ∷ ls) es below g.named);
      }

  -- one of the same application is in the run of that
  grouped_with : name_cmp (name_of l) (name_of m) ≡ Equal → IsGrouped l (m ∷ ls)
  grouped_with tied =
      let same = names_exact (name_of l) (name_of m) tied in
      let are = entries_by Equal tied ∙ ap (λ a. (a, l) ∷ g.others) (sym same) in
      let below = ascend (l ∷ m ∷ ls) (name_of l, l) g.others are in
      let mine = taken l (m ∷ ls) ∙ ap (λ a. l ∷ leases_of (m ∷ ls) a) same ∙ ap (λ run. l ∷ run) (taken m ls) in
      let others = sym (same_leases l (m ∷ ls) g.others below) in
      record {
        value = l;
        others = g.others;
        are = are;
        cut = runs_by true (name_eq-ties (name_of l) (name_of m) ∙ ap is_eq tied) ∙ (λ i. sym mine i ∷ others i);
        named = (ap app_of mine, same_names l (m ∷ ls) g.others below g.named.1);
      }

nobody : entries (by_application []) ≡ []
nobody = nil_from_length (entries (by_application [])) (sym (len-entries (by_application [])) ∙ len-empty name_cmp Listed)

grouped : (l : Listed) (ls : List Listed) → Rises (l ∷ ls) → IsGrouped l ls
grouped l [] rises =
    let mine = taken l [] in
    record {
      value = l;
      others = [];
      are = entries-insert names_total (by_application []) (name_of l) l ∙ ap (put name_cmp (name_of l) l) nobody;
      cut = λ i. sym mine i ∷ [];
      named = (ap app_of mine, tt);
    }
grouped l (m ∷ ls) rises =
    let order = key_cmp l.instance.key m.instance.key in
    let rest = second (is_before l (m ∷ ls)) (is_before m ls && is_sorted key_cmp (map (λ n. (n.instance.key, n)) ls)) rises in
    let key = less order (first (is_lt order) (is_before l ls) (first (is_before l (m ∷ ls)) (is_before m ls && is_sorted key_cmp (map (λ n. (n.instance.key, n)) ls)) rises)) in
    let before = first (is_before m ls) (is_sorted key_cmp (map (λ n. (n.instance.key, n)) ls)) rest in
    let g = grouped m ls rest in
    elim (name_cmp (name_of l) (name_of m)) as (λ o. name_cmp (name_of l) (name_of m) ≡ o → ordering_then o (name_cmp l.instance.key.id m.instance.key.id) ≡ Less → IsGrouped l (m ∷ ls)) [
      | Less ↦ λ is e. grouped_alone l m ls g is before
      | Equal ↦ λ is e. grouped_with l m ls g is
      | Greater ↦ λ is e. absurd (subst (λ o. T (is_lt o)) (sym e) tt)
    ] refl key

-- ---- the items

abbrev item_by : List Listed → List ℕ → Data
item_by run app = object (member (codes "instance") (list_tree (map listed_tree run)) (member (codes "name") (string app) no_members))

items : (held : List Listed) (es : List (List ℕ × Listed)) → AreNamed held es → map item_tree (map (leases_of held) (names es)) ≡ map (item_of held) (names es)
items held [] named = refl
items held (e ∷ es) named =
    let name = named.0 in
    let others = items held es named.1 in
    λ i. item_by (leases_of held e.0) (name i) ∷ others i

-- what each run is
pub runs_are_of_applications : (held : List Listed) → IsInKeyOrder held → runs held ≡ map (leases_of held) (applications held)
runs_are_of_applications [] order = ap (λ es. map (leases_of []) (names es)) (sym nobody)
runs_are_of_applications (l ∷ ls) order =
    let g = grouped l ls (subst T (sym order) tt) in
    g.cut ∙ ap (λ es. map (leases_of (l ∷ ls)) (names es)) (sym g.are)

pub items_are_of_applications : ItemsAreOfApplications
items_are_of_applications [] order = ap (λ es. map (item_of []) (names es)) (sym nobody)
items_are_of_applications (l ∷ ls) order =
    let g = grouped l ls (subst T (sym order) tt) in
    ap (map item_tree) g.cut ∙ items (l ∷ ls) ((name_of l, g.value) ∷ g.others) g.named ∙ ap (λ es. map (item_of (l ∷ ls)) (names es)) (sym g.are)

-- ---- the leases of all items

abbrev joined : List (List Listed) → List Listed
joined rs = flat_map (λ r. r) rs

joined_before : (l : Listed) (rs : List (List Listed)) → joined (before_runs l rs) ≡ l ∷ joined rs
joined_before l [] = refl
joined_before l ([] ∷ rs) = refl
joined_before l ((m ∷ run) ∷ rs) =
    elim (same_app l m) as (λ b. joined (cond b ((l ∷ m ∷ run) ∷ rs) ((l ∷ []) ∷ (m ∷ run) ∷ rs)) ≡ l ∷ joined ((m ∷ run) ∷ rs)) [ true ↦ refl | false ↦ refl ]

-- the runs put together are the list
whole : (held : List Listed) → joined (runs held) ≡ held
whole [] = refl
whole (l ∷ ls) = joined_before l (runs ls) ∙ ap (λ r. l ∷ r) (whole ls)

joined-map : (held : List Listed) (apps : List (List ℕ)) → joined (map (leases_of held) apps) ≡ flat_map (leases_of held) apps
joined-map held [] = refl
joined-map held (app ∷ apps) = ap (λ r. leases_of held app ++ r) (joined-map held apps)

pub leases_are_of_applications : LeasesAreOfApplications
leases_are_of_applications held order = sym (joined-map held (applications held)) ∙ ap joined (sym (runs_are_of_applications held order)) ∙ whole held
