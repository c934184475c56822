-- Members that are set and left out again
use Rattle.std.proofs.Common.{◌≡◌, ℕ, Bool, true, false, if◌then◌else◌, List, [], ◌∷◌, Option, Some, None, Ordering, Less, Equal, Greater, bytes_eq, is_eq, nat_cmp, true≢false, refl, sym, ap, ◌∙◌}
use Rattle.std.specs.List.{AllByRecursion}
use Rattle.std.specs.Ordering.{match_ordering}
use Rattle.std.specs.Cmp.Lexicographic.{slice_cmp}
use Rattle.std.proofs.lemmas.Cmp.{nat_list_cmp_total, tied_itself}
use Rattle.std.proofs.lemmas.Map.Text.{is_eq-slice_cmp}
use Rattle.std.proofs.lemmas.Slice.Eq.{bytes_eq-Decides}
use Rattle.serde_json.specs.Data.{Data, Members, no_members, member, put}
use Rattle.serde_json.specs.Find.{get_member}
use Rattle.serde_json.proofs.Views.{get_member-put, get_member-put_other}
use Rattle.eu_json.specs.Tree.{but_members, is_among}
use Rattle.eu_text.proofs.OrderLemmas.{IsBelow}
use Rattle.eu_text.proofs.FitLemmas.{IsOrdered, MembersOrdered}
use Rattle.eu_text.proofs.TextLemmas.{equal_names}

same_name : (name : List ℕ) → slice_cmp nat_cmp name name ≡ Equal
same_name name = tied_itself nat_list_cmp_total name

either : (o : Ordering) (a b : Option Data) → is_eq o ≡ false → match_ordering o a b a ≡ a
either Equal a b e = absurd (true≢false e)
either o a b e = refl

-- a member of another name is passed over
skip : (q k : List ℕ) (d : Data) (ms : Members) → bytes_eq q k ≡ false → get_member q (member k d ms) ≡ get_member q ms
skip q k d ms apart = either (slice_cmp nat_cmp q k) _ _ (is_eq-slice_cmp q k ∙ apart)

-- and one that is set leaves the others
put_other : (q k : List ℕ) (d : Data) (ms : Members) → bytes_eq q k ≡ false → get_member q (put k d ms) ≡ get_member q ms
put_other q k d ms apart = get_member-put_other q k d ms (λ is. true≢false (sym ((bytes_eq-Decides q k).1 is) ∙ apart))

-- ---- names that are left out

apart_at : (same : Bool) (ns : List (List ℕ)) (q l : List ℕ) → bytes_eq q l ≡ same → (is_among ns q ≡ is_among ns l → ⊥) → same ≡ false
apart_at true ns q l is differ = absurd (differ (ap (is_among ns) ((bytes_eq-Decides q l).0 is)))
apart_at false ns q l is differ = refl

-- of two names one of which is among them they are two
apart : (ns : List (List ℕ)) (q l : List ℕ) → (is_among ns q ≡ is_among ns l → ⊥) → bytes_eq q l ≡ false
apart ns q l differ = apart_at _ ns q l refl differ

other_at : (out : Bool) (ns : List (List ℕ)) (q l : List ℕ) (d : Data) (ms rest : Members) → is_among ns l ≡ out → is_among ns q ≡ false → get_member q rest ≡ get_member q ms
    → get_member q (if out then rest else member l d rest) ≡ get_member q (member l d ms)
other_at true ns q l d ms rest is other later = later ∙ sym (skip q l d ms (apart ns q l (λ e. true≢false (sym is ∙ sym e ∙ other))))
other_at false ns q l d ms rest is other later = ap (λ r. match_ordering (slice_cmp nat_cmp q l) r (Some d) r) later

-- another name leads to what it led to
pub buts_other : (q : List ℕ) (ns : List (List ℕ)) (ms : Members) → is_among ns q ≡ false → get_member q (but_members ns ms) ≡ get_member q ms
buts_other q ns no_members other = refl
buts_other q ns (member l d ms) other = other_at _ ns q l d ms (but_members ns ms) refl other (buts_other q ns ms other)

below_at : (out : Bool) (j l : List ℕ) (d : Data) (rest : Members) → slice_cmp nat_cmp j l ≡ Less → IsBelow j rest → IsBelow j (if out then rest else member l d rest)
below_at true j l d rest less later = later
below_at false j l d rest less later = (less, later)

below_buts : (j : List ℕ) (ns : List (List ℕ)) (ms : Members) → IsBelow j ms → IsBelow j (but_members ns ms)
below_buts j ns no_members below = tt
below_buts j ns (member l d ms) below = below_at (is_among ns l) j l d (but_members ns ms) below.0 (below_buts j ns ms below.1)

in_order_at : (out : Bool) (l : List ℕ) (d : Data) (rest : Members) → IsBelow l rest → IsOrdered d → MembersOrdered rest → MembersOrdered (if out then rest else member l d rest)
in_order_at true l d rest below here later = later
in_order_at false l d rest below here later = (below, here, later)

pub in_order_buts : (ns : List (List ℕ)) (ms : Members) → MembersOrdered ms → MembersOrdered (but_members ns ms)
in_order_buts ns no_members order = tt
in_order_buts ns (member l d ms) order = in_order_at (is_among ns l) l d (but_members ns ms) (below_buts l ns ms order.0) order.1 (in_order_buts ns ms order.2)

-- none of the names is there
abbrev pub Lacks : List (List ℕ) → Members → Type 0
Lacks ns ms = (q : List ℕ) → is_among ns q ≡ true → get_member q ms ≡ None

self_at : (out : Bool) (ns : List (List ℕ)) (q l : List ℕ) (d : Data) (rest : Members) → is_among ns l ≡ out → is_among ns q ≡ true → get_member q rest ≡ None
    → get_member q (if out then rest else member l d rest) ≡ None
self_at true ns q l d rest is here later = later
self_at false ns q l d rest is here later = skip q l d rest (apart ns q l (λ e. true≢false (sym here ∙ e ∙ is))) ∙ later

-- so it is once they are left out
pub buts_self : (ns : List (List ℕ)) (ms : Members) → Lacks ns (but_members ns ms)
buts_self ns no_members q here = refl
buts_self ns (member l d ms) q here = self_at _ ns q l d (but_members ns ms) refl here (buts_self ns ms q here)

some_none : (o : Ordering) (d : Data) (rest : Option Data) → match_ordering o rest (Some d) rest ≡ None → rest ≡ None
some_none Equal d rest none = absurd cc
some_none o d rest none = none

first_none : (o : Ordering) (d : Data) (rest : Option Data) → o ≡ Equal → match_ordering o rest (Some d) rest ≡ None → ⊥
first_none Equal d rest is none = cc
first_none o d rest is none = cc

none_at : (out : Bool) (ns : List (List ℕ)) (l : List ℕ) (d : Data) (ms rest : Members) → is_among ns l ≡ out → Lacks ns (member l d ms) → rest ≡ ms
    → (if out then rest else member l d rest) ≡ member l d ms
none_at true ns l d ms rest is lacks later = absurd (first_none (slice_cmp nat_cmp l l) d (get_member l ms) (same_name l) (lacks l is))
none_at false ns l d ms rest is lacks later = ap (member l d) later

-- and then they need not be left out
buts_none : (ns : List (List ℕ)) (ms : Members) → Lacks ns ms → but_members ns ms ≡ ms
buts_none ns no_members lacks = refl
buts_none ns (member l d ms) lacks =
    none_at _ ns l d ms (but_members ns ms) refl lacks (buts_none ns ms (λ q here. some_none (slice_cmp nat_cmp q l) d _ (lacks q here)))

abbrev left_out : List ℕ → Data → Members → Bool → Members
left_out l d rest out = if out then rest else member l d rest

put_at : (o : Ordering) (ns : List (List ℕ)) (k l : List ℕ) (d e : Data) (ms rest : Members) → slice_cmp nat_cmp k l ≡ o → is_among ns k ≡ true → but_members ns rest ≡ but_members ns ms
    → but_members ns (match_ordering o (member k d (member l e ms)) (member l d ms) (member l e rest)) ≡ but_members ns (member l e ms)
put_at Less ns k l d e ms rest is here later = ap (left_out k d (but_members ns (member l e ms))) here
put_at Equal ns k l d e ms rest is here later =
    let there : is_among ns l ≡ true = ap (is_among ns) (sym (equal_names k l is)) ∙ here in
    ap (left_out l d (but_members ns ms)) there ∙ sym (ap (left_out l e (but_members ns ms)) there)
put_at Greater ns k l d e ms rest is here later = ap (λ (r : Members). left_out l e r (is_among ns l)) later

-- what is set by one of the names is left out
buts_put : (ns : List (List ℕ)) (k : List ℕ) (d : Data) (ms : Members) → is_among ns k ≡ true → but_members ns (put k d ms) ≡ but_members ns ms
buts_put ns k d no_members here = ap (left_out k d no_members) here
buts_put ns k d (member l e ms) here = put_at _ ns k l d e ms (put k d ms) refl here (buts_put ns k d ms here)

-- ---- members that are set one after another, the last of the list first

abbrev pub puts : List (List ℕ × Data) → Members → Members
puts [] ms = ms
puts (p ∷ ps) ms = put p.0 p.1 (puts ps ms)

-- what was set last by the name, or else what was there
abbrev pub set_last : List ℕ → List (List ℕ × Data) → Option Data → Option Data
set_last q [] before = before
set_last q (p ∷ ps) before = if bytes_eq q p.0 then Some p.1 else set_last q ps before

set_at : (same : Bool) (q : List ℕ) (p : List ℕ × Data) (ms : Members) (before : Option Data) → bytes_eq q p.0 ≡ same → get_member q ms ≡ before
    → get_member q (put p.0 p.1 ms) ≡ (if same then Some p.1 else before)
set_at true q p ms before is later = ap (λ n. get_member n (put p.0 p.1 ms)) ((bytes_eq-Decides q p.0).0 is) ∙ get_member-put p.0 p.1 ms
set_at false q p ms before is later = put_other q p.0 p.1 ms is ∙ later

pub puts_get : (q : List ℕ) (ps : List (List ℕ × Data)) (ms : Members) → get_member q (puts ps ms) ≡ set_last q ps (get_member q ms)
puts_get q [] ms = refl
puts_get q (p ∷ ps) ms = set_at _ q p (puts ps ms) _ refl (puts_get q ps ms)

buts_puts_all : (ns : List (List ℕ)) (ps : List (List ℕ × Data)) (ms : Members) → AllByRecursion (λ p. is_among ns p.0 ≡ true) ps → but_members ns (puts ps ms) ≡ but_members ns ms
buts_puts_all ns [] ms each = refl
buts_puts_all ns (p ∷ ps) ms each = buts_put ns p.0 p.1 (puts ps ms) each.0 ∙ buts_puts_all ns ps ms each.1

-- where each is set by one of the names, leaving these out leaves what was there
pub buts_puts : (ns : List (List ℕ)) (ps : List (List ℕ × Data)) (ms : Members) → Lacks ns ms → AllByRecursion (λ p. is_among ns p.0 ≡ true) ps → but_members ns (puts ps ms) ≡ ms
buts_puts ns ps ms lacks each = buts_puts_all ns ps ms each ∙ buts_none ns ms lacks
