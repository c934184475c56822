-- Members in the order of their names
use Rattle.std.proofs.Common.{◌≡◌, ℕ, List, Bool, true, false, true≢false, ◌&&◌, Option, Some, Ordering, Less, Equal, Greater, nat_cmp, is_lt, refl, sym}
use Rattle.std.specs.Prelude.{⊤}
use Rattle.std.specs.Cmp.Lexicographic.{slice_cmp}
use Rattle.std.proofs.lemmas.Cmp.{nat_list_cmp_total}
use Rattle.std.proofs.lemmas.Bool.{and_parts}
use Rattle.serde_json.specs.Data.{Members, no_members, member}
use Rattle.eu_text.specs.Fit.{follows, fits, members_fit}

-- the name stands before those of the members
abbrev pub IsBelow : List ℕ → Members → Type 0
IsBelow k no_members = ⊤
IsBelow k (member l d ms) = (slice_cmp nat_cmp k l ≡ Less) × IsBelow k ms

pub less_of : (o : Ordering) → is_lt o ≡ true → o ≡ Less
less_of Less is = refl
less_of Equal is = absurd (true≢false (sym is))
less_of Greater is = absurd (true≢false (sym is))

pub below_more : (j k : List ℕ) (ms : Members) → slice_cmp nat_cmp j k ≡ Less → IsBelow k ms → IsBelow j ms
below_more j k no_members less below = tt
below_more j k (member l d ms) less below = (nat_list_cmp_total.trans j k l less below.0, below_more j k ms less below.1)

-- where each name stands behind the one before, the first stands before all
pub all_behind : (n : ℕ) (k : List ℕ) (ms : Members) → members_fit n (Some k) ms ≡ true → IsBelow k ms
all_behind n k no_members fit = tt
all_behind n k (member l d ms) fit =
    let parts = and_parts (follows (Some k) l) (fits n d && members_fit n (Some l) ms) fit in
    let less = less_of (slice_cmp nat_cmp k l) parts.0 in
    (less, below_more k l ms less (all_behind n l ms (and_parts (fits n d) (members_fit n (Some l) ms) parts.1).1))
