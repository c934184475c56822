-- A tree that was read, and each part of it, fits where its numbers are whole
use Rattle.std.proofs.Common.{◌≡◌, ℕ, ◌≤◌, List, Bool, true, false, Option, Some, None, Ok, Err, option_and_then, unwrap_or, cond, codes, not, is_some, true≢false, Ordering, Equal, nat_cmp, nat_lt, refl, ap, sym, subst, arith}
use Rattle.std.specs.Prelude.{ok_or}
use Rattle.std.specs.Ordering.{match_ordering}
use Rattle.std.specs.Cmp.Lexicographic.{slice_cmp}
use Rattle.serde_json.specs.Data.{Data, array, object, Items, no_items, item, Members, no_members, member, depth, items_depth, members_depth}
use Rattle.serde_json.specs.Events.{items_len}
use Rattle.serde_json.specs.Find.{as_array, as_object, get, get_member}
use Rattle.serde_json.specs.Read.{max_depth, read}
use Rattle.serde_json.specs.Written.{has_float}
use Rattle.serde_json.proofs.Nesting.{depth-read}
use Rattle.eu_base.specs.declared.faults.Fault.TheVariants.{BadBatch}
use Rattle.eu_base.specs.Gives.{◌>>=◌}
use Rattle.eu_base.specs.Rest.{IsRest}
use Rattle.eu_text.specs.Fit.{is_fit}
use Rattle.eu_text.proofs.ReadLemmas.{has_no_float}
use Rattle.eu_json.specs.Batch.{few_items}
use Rattle.eu_json.specs.Parts.{BatchFits, BodyFits, FitsIfWhole, InfosFit}
use Rattle.eu_json.proofs.MemberLemmas.{whole_get}
use Rattle.eu_text.proofs.FitLemmas.{IsOrdered, ItemsOrdered, ordered_fits, read_ordered}
use Rattle.eu_json.proofs.OrderLemmas.{in_order_get}
use Rattle.eu_json.proofs.SaidLemmas.{ok_same}

-- ---- a member that is got nests no deeper

found : (o : Ordering) (e i : Data) (before : Option Data) (n : ℕ) → match_ordering o before (Some e) before ≡ Some i → depth e ≤ n → (before ≡ Some i → depth i ≤ n) → depth i ≤ n
found Equal e i before n is within rest = subst (λ (d : Data). depth d ≤ n) (ap (λ o. unwrap_or o e) is) within
found o e i before n is within rest = rest is

member_depth : (name : List ℕ) (ms : Members) (i : Data) (n : ℕ) → members_depth ms ≤ n → get_member name ms ≡ Some i → depth i ≤ n
member_depth name no_members i n within is = absurd cc
member_depth name (member l d ms) i n within is =
    found (slice_cmp nat_cmp name l) d i (get_member name ms) n is (omega (arith, within)) (member_depth name ms i n (omega (arith, within)))

get_depth : (name : List ℕ) (d i : Data) → depth d ≤ max_depth → get name d ≡ Some i → depth i ≤ max_depth
get_depth name (object ms) i within is = member_depth name ms i max_depth (omega (arith, within)) is
get_depth name d i within is = absurd cc

-- ---- parts of what was read

-- as every part of what was read
abbrev pub IsPart : Data → Type 0
IsPart d = IsOrdered d × (depth d ≤ max_depth)

pub whole_part : (text : List ℕ) (d : Data) → read text ≡ Some d → IsPart d
whole_part text d is = (read_ordered text d is, depth-read text d is)

pub member_part : (name : List ℕ) (d i : Data) → IsPart d → get name d ≡ Some i → IsPart i
member_part name d i part is = (in_order_get name d i part.0 is, get_depth name d i part.1 is)

pub part_fits : (d : Data) → IsPart d → FitsIfWhole d
part_fits d part whole = ordered_fits max_depth d part.0 whole part.1

-- it fits where they are whole, and nowhere else
decides : (float fit : Bool) → (float ≡ false → fit ≡ true) → (fit ≡ true → float ≡ false) → fit ≡ not float
decides true true there back = absurd (true≢false (back refl))
decides true false there back = refl
decides false true there back = refl
decides false false there back = absurd (true≢false (sym (there refl)))

pub fits_just_if_whole : (d : Data) → FitsIfWhole d → is_fit d ≡ not (has_float d)
fits_just_if_whole d fits = decides (has_float d) (is_fit d) fits (has_no_float max_depth d)

-- ---- the instance of a body

pub body_fits : (text : List ℕ) (body : Data) → read text ≡ Some body → BodyFits body
body_fits text body got =
    let part = whole_part text body got in
    (part_fits body part, λ i at. part_fits i (member_part (codes "instance") body i part at))

pub instance_rest : (body i : Data) → BodyFits body → get (codes "instance") body ≡ Some i → is_some (as_object i) ≡ true → is_fit body ≡ true → IsRest i
instance_rest body i fits at is fit =
    let whole = whole_get (codes "instance") body i (has_no_float max_depth body fit) at in
    record { members = is; whole = whole; fit = fits.1 i at whole }

-- ---- the items of a batch

infos_fit : (is : Items) → ItemsOrdered is → items_depth is ≤ max_depth → InfosFit is
infos_fit no_items order within = tt
infos_fit (item i is) order within = (
  λ d got. part_fits d (member_part (codes "instanceInfo") i d (order.0, omega (arith, within)) got),
  infos_fit is order.1 (omega (arith, within)),
)

few : (many : Bool) (is js : Items) → cond many (Err BadBatch) (Ok is) ≡ Ok js → is ≡ js
few true is js same = absurd cc
few false is js same = ok_same is js same

list_fits : (d : Option Data) (is : Items) → ((e : Data) → d ≡ Some e → IsPart e) → (ok_or (option_and_then as_array d) BadBatch >>= few_items) ≡ Ok is → InfosFit is
list_fits None is part got = absurd cc
list_fits (Some (array ds)) is part got =
    let of_list = part (array ds) refl in subst InfosFit (few (nat_lt 250 (items_len ds)) ds is got) (infos_fit ds of_list.0 (omega (arith, of_list.1)))
list_fits (Some d) is part got = absurd cc

pub infos_of_text : (text : List ℕ) (body : Data) → read text ≡ Some body → BatchFits body
infos_of_text text body got = λ is found. list_fits (get (codes "replicationList") body) is (λ e at. member_part (codes "replicationList") body e (whole_part text body got) at) found
