-- A member that is got of a tree in order stands in order
use Rattle.std.proofs.Common.{◌≡◌, ℕ, List, Option, Some, unwrap_or, Ordering, Equal, ap, subst, nat_cmp}
use Rattle.std.specs.Ordering.{match_ordering}
use Rattle.std.specs.Cmp.Lexicographic.{slice_cmp}
use Rattle.serde_json.specs.Data.{Data, object, Members, no_members, member}
use Rattle.serde_json.specs.Find.{get, get_member}
use Rattle.eu_text.proofs.FitLemmas.{IsOrdered, MembersOrdered}

found : (o : Ordering) (e i : Data) (before : Option Data) → match_ordering o before (Some e) before ≡ Some i → IsOrdered e → (before ≡ Some i → IsOrdered i) → IsOrdered i
found Equal e i before is order rest = subst IsOrdered (ap (λ o. unwrap_or o e) is) order
found o e i before is order rest = rest is

in_order_member : (name : List ℕ) (ms : Members) (i : Data) → MembersOrdered ms → get_member name ms ≡ Some i → IsOrdered i
in_order_member name no_members i order is = absurd cc
in_order_member name (member l d ms) i order is = found (slice_cmp nat_cmp name l) d i (get_member name ms) is order.1 (in_order_member name ms i order.2)

pub in_order_get : (name : List ℕ) (d i : Data) → IsOrdered d → get name d ≡ Some i → IsOrdered i
in_order_get name (object ms) i order is = in_order_member name ms i order is
in_order_get name d i order is = absurd cc
