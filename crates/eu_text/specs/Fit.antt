-- Which trees are read of their own text
use Rattle.std.specs.Prelude.{ℕ, ◌^◌, ◌-◌, ◌&&◌, Bool, true, false, ℤ, pos, negsuc, List, Option, Some, None, nat_lt}
use Rattle.std.specs.Ordering.{nat_cmp, is_lt}
use Rattle.std.specs.Cmp.Lexicographic.{slice_cmp}
use Rattle.serde_json.specs.Data.{Num, unsigned, negative, float, Data, null, boolean, number, string, array, object, Items, no_items, item, Members, no_members, member}
use Rattle.serde_json.specs.Read.{max_depth}

-- a number is whole, and has 64 bits
abbrev pub is_whole : Num → Bool
is_whole (unsigned n) = nat_lt n (2 ^ 64)
is_whole (negative (pos n)) = false
is_whole (negative (negsuc n)) = nat_lt n (2 ^ 63)
is_whole (float x) = false

-- the second name stands behind the first, by their bytes; a first one behind none
abbrev pub follows : Option (List ℕ) → List ℕ → Bool
follows None l = true
follows (Some k) l = is_lt (slice_cmp nat_cmp k l)

-- a tree nests at most so deep, its numbers are whole, and the members of each object stand in the order of their names, each once
abbrev mutual
  pub fits : ℕ → Data → Bool
  fits depth null = true
  fits depth (boolean b) = true
  fits depth (number n) = is_whole n
  fits depth (string s) = true
  fits depth (array ds) = nat_lt 0 depth && items_fit (depth - 1) ds
  fits depth (object ms) = nat_lt 0 depth && members_fit (depth - 1) None ms

  pub items_fit : ℕ → Items → Bool
  items_fit depth no_items = true
  items_fit depth (item d ds) = fits depth d && items_fit depth ds

  -- those behind a name, if there is one
  pub members_fit : ℕ → Option (List ℕ) → Members → Bool
  members_fit depth last no_members = true
  members_fit depth last (member k d ms) = follows last k && (fits depth d && members_fit depth (Some k) ms)

-- it nests no deeper than a text that is read
abbrev pub is_fit : Data → Bool
is_fit d = fits max_depth d
