-- The text of an object in pieces: what stands between the members that are put in
use Rattle.std.specs.Prelude.{◌≡◌, ℕ, List, [], ◌∷◌, ◌++◌, length, ⊤}
use Rattle.std.specs.Ordering.{nat_cmp, match_ordering}
use Rattle.std.specs.Cmp.Lexicographic.{slice_cmp}
use Rattle.std.specs.declared.cmp.Ordering.TheVariants.{Less}
use Rattle.json.specs.Print.{quoted}
use Rattle.serde_json.specs.Data.{Data, Members, no_members, member, put}
use Rattle.serde_json.specs.Written.{compact_text}
use Rattle.eu_text.specs.declared.cut.Cut.{Cut}

-- the members of both, one after another
abbrev pub joined : Members → Members → Members
joined no_members ms = ms
joined (member l d ls) ms = member l d (joined ls ms)

-- a member with a comma before it
abbrev pub led_member : List ℕ → Data → List ℕ
led_member k d = 44 ∷ (quoted k ++ 58 ∷ compact_text d)

-- the members' text, a comma before each
abbrev pub led : Members → List ℕ
led no_members = []
led (member k d ms) = led_member k d ++ led ms

-- ---- a name cuts members in three: those before it, the one that has it, and those behind it

abbrev pub before : List ℕ → Members → Members
before k no_members = no_members
before k (member l d ms) = match_ordering (slice_cmp nat_cmp k l) no_members no_members (member l d (before k ms))

abbrev pub named : List ℕ → Members → Members
named k no_members = no_members
named k (member l d ms) = match_ordering (slice_cmp nat_cmp k l) no_members (member l d no_members) (named k ms)

abbrev pub behind : List ℕ → Members → Members
behind k no_members = no_members
behind k (member l d ms) = match_ordering (slice_cmp nat_cmp k l) (member l d ms) ms (behind k ms)

-- how long the text before each name is, and that of the member that has it
abbrev pub cuts_of : List (List ℕ) → Members → List Cut
cuts_of [] ms = []
cuts_of (k ∷ ks) ms = record { before = length (led (before k ms)); named = length (led (named k ms)) } ∷ cuts_of ks (behind k ms)

-- ---- members that are put in, in the order of their names

abbrev pub names : List (List ℕ × Data) → List (List ℕ)
names [] = []
names (o ∷ os) = o.0 ∷ names os

-- the name stands before the first of the list, if there is one
abbrev pub ComesBefore : List ℕ → List (List ℕ) → Type 0
ComesBefore k [] = ⊤
ComesBefore k (l ∷ ls) = slice_cmp nat_cmp k l ≡ Less

abbrev pub IsAscending : List (List ℕ) → Type 0
IsAscending [] = ⊤
IsAscending (k ∷ ks) = ComesBefore k ks × IsAscending ks

-- all put in
abbrev pub put_all : List (List ℕ × Data) → Members → Members
put_all [] ms = ms
put_all (o ∷ os) ms = put o.0 o.1 (put_all os ms)

-- the text then: each piece, and the member that follows it
abbrev pub merged : List (List ℕ × Data) → Members → List ℕ
merged [] ms = led ms
merged (o ∷ os) ms = led (before o.0 ms) ++ (led_member o.0 o.1 ++ merged os (behind o.0 ms))
