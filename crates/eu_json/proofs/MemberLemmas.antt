-- Members that are left out of an object
use Rattle.std.proofs.Common.{◌≡◌, ℕ, Bool, true, false, not, ◌&&◌, List, [], ◌∷◌, ◌++◌, Option, Some, None, Ordering, Equal, cond, filter, if◌then◌else◌, is_lt, string_bytes, unwrap_or, append-nil, refl, sym, ap, ap₂, ◌∙◌}
use Rattle.std.proofs.lemmas.Bool.{and_parts, or_parts}
use Rattle.std.proofs.lemmas.Cmp.{nat_list_cmp_total}
use Rattle.std.specs.Ordering.{nat_cmp, match_ordering}
use Rattle.std.specs.Cmp.Lexicographic.{slice_cmp}
use Rattle.serde_json.specs.Data.{Data, Members, no_members, member, object}
use Rattle.serde_json.specs.Find.{as_object, get, get_member}
use Rattle.serde_json.specs.View.{view, members_view}
use Rattle.serde_json.specs.Written.{has_float, members_have_float}
use Rattle.serde_json.proofs.Views.{Entry}
use Rattle.eu_text.specs.Fit.{follows, fits, members_fit, is_fit}
use Rattle.eu_text.proofs.OrderLemmas.{less_of}
use Rattle.eu_json.specs.Reading.{is_own, own_names}
use Rattle.eu_json.specs.Tree.{but_members, is_among, without}

-- ---- the entries that are left

-- an entry that isn't of the registry's own
abbrev pub is_others : Entry → Bool
is_others e = not (is_own (string_bytes e.0))

step : (own : Bool) (e : Entry) (es : List Entry) (rest : Members) → members_view es ≡ rest
    → members_view (cond (not own) (e ∷ es) es) ≡ (if own then rest else member (string_bytes e.0) (view e.1) rest)
step true e es rest is = is
step false e es rest is = ap (λ (m : Members). member (string_bytes e.0) (view e.1) m) is

others_view : (es : List Entry) → members_view (filter is_others es) ≡ but_members own_names (members_view es)
unfolding is_own
others_view [] = refl
others_view (e ∷ es) = step (is_own (string_bytes e.0)) e (filter is_others es) _ (others_view es)

-- where no entry is left, those that were kept are the others
pub others_done : (done left all : List Entry) → done ++ filter is_others left ≡ filter is_others all → left ≡ [] → members_view done ≡ but_members own_names (members_view all)
others_done done left all kept none = ap members_view (sym (append-nil done) ∙ ap (λ es. done ++ filter is_others es) (sym none) ∙ kept) ∙ others_view all

-- ---- no member of whole numbers has a fraction

found : (o : Ordering) (e i : Data) (before : Option Data) → match_ordering o before (Some e) before ≡ Some i → has_float e ≡ false → (before ≡ Some i → has_float i ≡ false) → has_float i ≡ false
found Equal e i before is whole rest = cc
found o e i before is whole rest = rest is

pub whole_member : (name : List ℕ) (ms : Members) (i : Data) → members_have_float ms ≡ false → get_member name ms ≡ Some i → has_float i ≡ false
whole_member name no_members i whole is = cc
whole_member name (member l d ms) i whole is =
    let parts = or_parts (has_float d) (members_have_float ms) whole in
    found (slice_cmp nat_cmp name l) d i (get_member name ms) is parts.0 (whole_member name ms i parts.1)

pub whole_get : (name : List ℕ) (d i : Data) → has_float d ≡ false → get name d ≡ Some i → has_float i ≡ false
whole_get name (object ms) i whole is = whole_member name ms i whole is
whole_get name d i whole is = cc

-- ---- without some members the numbers stay whole

whole_at : (out : Bool) (l : List ℕ) (d : Data) (rest : Members) → has_float d ≡ false → members_have_float rest ≡ false → members_have_float (if out then rest else member l d rest) ≡ false
whole_at true l d rest first later = later
whole_at false l d rest first later = rw (first, later) refl

pub whole_buts : (ns : List (List ℕ)) (ms : Members) → members_have_float ms ≡ false → members_have_float (but_members ns ms) ≡ false
whole_buts ns no_members whole = refl
whole_buts ns (member l d ms) whole =
    let parts = or_parts (has_float d) (members_have_float ms) whole in whole_at (is_among ns l) l d (but_members ns ms) parts.0 (whole_buts ns ms parts.1)

-- ---- and it fits as before

follows_later : (last : Option (List ℕ)) (k l : List ℕ) → follows last k ≡ true → follows (Some k) l ≡ true → follows last l ≡ true
follows_later None k l first second = refl
follows_later (Some j) k l first second = ap is_lt (nat_list_cmp_total.trans j k l (less_of (slice_cmp nat_cmp j k) first) (less_of (slice_cmp nat_cmp k l) second))

without_first : (n : ℕ) (last : Option (List ℕ)) (k : List ℕ) (ms : Members) → follows last k ≡ true → members_fit n (Some k) ms ≡ true → members_fit n last ms ≡ true
without_first n last k no_members first fit = refl
without_first n last k (member l d ms) first fit =
    let parts = and_parts (follows (Some k) l) (fits n d && members_fit n (Some l) ms) fit in ap₂ (◌&&◌) (follows_later last k l first parts.0) parts.1

fit_at : (out : Bool) (n : ℕ) (last : Option (List ℕ)) (l : List ℕ) (d : Data) (rest : Members) → follows last l ≡ true → fits n d ≡ true → members_fit n (Some l) rest ≡ true
    → members_fit n last (if out then rest else member l d rest) ≡ true
fit_at true n last l d rest first here later = without_first n last l rest first later
fit_at false n last l d rest first here later = ap₂ (◌&&◌) first (ap₂ (◌&&◌) here later)

fit_buts : (ns : List (List ℕ)) (n : ℕ) (last : Option (List ℕ)) (ms : Members) → members_fit n last ms ≡ true → members_fit n last (but_members ns ms) ≡ true
fit_buts ns n last no_members fit = refl
fit_buts ns n last (member l d ms) fit =
    let parts = and_parts (follows last l) (fits n d && members_fit n (Some l) ms) fit in
    let rest = and_parts (fits n d) (members_fit n (Some l) ms) parts.1 in
    fit_at (is_among ns l) n last l d (but_members ns ms) parts.0 rest.0 (fit_buts ns n (Some l) ms rest.1)

fit_without : (ns : List (List ℕ)) (d : Data) → is_fit d ≡ true → is_fit (without ns d) ≡ true
fit_without ns (object ms) fit = fit_buts ns 126 None ms fit
fit_without ns d fit = fit

-- the members of an object, without some
members_without : (ns : List (List ℕ)) (d : Data) (ms : Members) → Some ms ≡ as_object d → object (but_members ns ms) ≡ without ns d
members_without ns (object all) ms is = ap (λ o. object (but_members ns (unwrap_or o no_members))) is
members_without ns d ms is = absurd cc

pub fit_of_members : (ns : List (List ℕ)) (d : Data) (ms : Members) → Some ms ≡ as_object d → is_fit d ≡ true → is_fit (object (but_members ns ms)) ≡ true
fit_of_members ns d ms is fit = ap is_fit (members_without ns d ms is) ∙ fit_without ns d fit
