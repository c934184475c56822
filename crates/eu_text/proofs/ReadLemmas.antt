-- A tree that fits is read of its own text
use Rattle.std.proofs.Common.{◌≡◌, ℕ, zero, suc, ◌+◌, ◌-◌, ◌<◌, ◌≤◌, ◌^◌, max, ℤ, pos, negsuc, List, [], ◌∷◌, ◌++◌, Bool, true, false, true≢false, ◌||◌, ◌&&◌, Option, Some, None, option_map, option_and_then, Ordering, Less, Equal, Greater, nat_cmp, nat_lt, is_lt, refl, sym, ap, ap₂, ◌∙◌, arith, append-nil, decimal}
use Rattle.std.specs.Prelude.{⊤}
use Rattle.std.specs.Ordering.{match_ordering, ordering_reverse}
use Rattle.std.specs.Cmp.Lexicographic.{slice_cmp}
use Rattle.std.proofs.lemmas.Cmp.{nat_list_cmp_total}
use Rattle.std.proofs.lemmas.Bool.{and_parts, ltb-true}
use Rattle.json.specs.Json as json
use Rattle.json.specs.Tree as tree
use Rattle.json.specs.Token.{Token}
use Rattle.json.specs.Lex.{tokens}
use Rattle.json.specs.Print.{print, IsNumber}
use Rattle.json.proofs.Printed.Tokens.{tokens-print}
use Rattle.json.proofs.Printed.Trees.{ArePrintable-json_tokens, value-json_tokens}
use Rattle.json.proofs.Printed.Decimals.{IsNumber-decimal, IsNumber-signed_decimal}
use Rattle.serde_json.specs.Data.{Num, unsigned, negative, float, Data, null, boolean, number, string, array, object, Items, no_items, item, Members, no_members, member, put, depth, items_depth, members_depth}
use Rattle.serde_json.specs.Read.{number_of, of_json, of_items, of_members, read, max_depth}
use Rattle.serde_json.specs.Written.{number_text, outline, items_outline, members_outline, has_float, items_have_float, members_have_float, compact_text}
use Rattle.serde_json.proofs.Numbers.{number_of-decimal, number_of-negative}
use Rattle.serde_json.proofs.Texts.{print-outline}
use Rattle.eu_text.specs.Fit.{is_whole, follows, fits, items_fit, members_fit, is_fit}
use Rattle.eu_text.specs.Text.{joined}
use Rattle.eu_text.proofs.OrderLemmas.{IsBelow, less_of, all_behind}

-- ---- it reads as itself

read_number : (n : Num) → is_whole n ≡ true → number_of (number_text n) ≡ Some n
read_number (unsigned n) fit = number_of-decimal n (ltb-true n (2 ^ 64) fit)
read_number (negative (pos n)) fit = absurd (true≢false (sym fit))
read_number (negative (negsuc n)) fit = number_of-negative n (ltb-true n (2 ^ 63) fit)
read_number (float x) fit = absurd (true≢false (sym fit))

-- a member above those that are there goes last
abbrev AllBelow : List ℕ → Members → Type 0
AllBelow k no_members = ⊤
AllBelow k (member l d ms) = (slice_cmp nat_cmp k l ≡ Greater) × AllBelow k ms

goes_last : (k : List ℕ) (d : Data) (done : Members) → AllBelow k done → put k d done ≡ joined done (member k d no_members)
goes_last k d no_members all = refl
goes_last k d (member l e done) all = rw (all.0) (ap (λ (m : Members). member l e m) (goes_last k d done all.1))

greater : (k l : List ℕ) → slice_cmp nat_cmp k l ≡ Less → slice_cmp nat_cmp l k ≡ Greater
greater k l less = nat_list_cmp_total.antisymm l k ∙ ap ordering_reverse less

-- those that are there are below those that come
abbrev Precede : Members → Members → Type 0
Precede done no_members = ⊤
Precede done (member k d ms) = AllBelow k done × Precede done ms

all_below_last : (k l : List ℕ) (d : Data) (done : Members) → AllBelow l done → slice_cmp nat_cmp k l ≡ Less → AllBelow l (joined done (member k d no_members))
all_below_last k l d no_members all less = (greater k l less, tt)
all_below_last k l d (member j e done) all less = (all.0, all_below_last k l d done all.1 less)

precede_more : (k : List ℕ) (d : Data) (done ms : Members) → Precede done ms → IsBelow k ms → Precede (joined done (member k d no_members)) ms
precede_more k d done no_members before below = tt
precede_more k d done (member l e ms) before below = (all_below_last k l d done before.0 below.0, precede_more k d done ms before.1 below.1)

joined_assoc : (a : Members) (k : List ℕ) (d : Data) (ms : Members) → joined (joined a (member k d no_members)) ms ≡ joined a (member k d ms)
joined_assoc no_members k d ms = refl
joined_assoc (member l e a) k d ms = ap (λ (m : Members). member l e m) (joined_assoc a k d ms)

joined_none : (a : Members) → joined a no_members ≡ a
joined_none no_members = refl
joined_none (member l e a) = ap (λ (m : Members). member l e m) (joined_none a)

precede_none : (ms : Members) → Precede no_members ms
precede_none no_members = tt
precede_none (member k d ms) = (tt, precede_none ms)

mutual
  normal : (n : ℕ) (d : Data) → fits n d ≡ true → of_json (outline d) ≡ Some d
  normal n null fit = refl
  normal n (boolean b) fit = refl
  normal n (number x) fit = ap (option_map number) (read_number x fit)
  normal n (string s) fit = refl
  normal n (array ds) fit = ap (option_map array) (normal_items (n - 1) ds (and_parts (nat_lt 0 n) _ fit).1)
  normal n (object ms) fit = ap (option_map object) (normal_members (n - 1) None no_members ms (and_parts (nat_lt 0 n) _ fit).1 (precede_none ms))

  normal_items : (n : ℕ) (ds : Items) → items_fit n ds ≡ true → of_items (items_outline ds) ≡ Some ds
  normal_items n no_items fit = refl
  normal_items n (item d ds) fit =
      let parts = and_parts (fits n d) (items_fit n ds) fit in
      ap (option_and_then (λ e. option_map (item e) (of_items (items_outline ds)))) (normal n d parts.0) ∙ ap (option_map (item d)) (normal_items n ds parts.1)

  normal_members : (n : ℕ) (last : Option (List ℕ)) (done ms : Members) → members_fit n last ms ≡ true → Precede done ms → of_members (members_outline ms) done ≡ Some (joined done ms)
  normal_members n last done no_members fit before = ap (λ (m : Members). Some m) (sym (joined_none done))
  normal_members n last done (member k d ms) fit before =
      let parts = and_parts (follows last k) (fits n d && members_fit n (Some k) ms) fit in
      let rest = and_parts (fits n d) (members_fit n (Some k) ms) parts.1 in
      ap (option_and_then (λ e. of_members (members_outline ms) (put k e done))) (normal n d rest.0)
      ∙ ap (of_members (members_outline ms)) (goes_last k d done before.0)
      ∙ normal_members n (Some k) (joined done (member k d no_members)) ms rest.1 (precede_more k d done ms before.1 (all_behind n k ms rest.1))
      ∙ ap (λ (m : Members). Some m) (joined_assoc done k d ms)

-- ---- its text is one of tokens

is_number : (n : Num) → is_whole n ≡ true → IsNumber (number_text n)
is_number (unsigned n) fit = IsNumber-decimal n (ltb-true n (2 ^ 64) fit)
is_number (negative (pos n)) fit = absurd (true≢false (sym fit))
is_number (negative (negsuc n)) fit = IsNumber-signed_decimal (negsuc n) (ltb-true n (2 ^ 63) fit)
is_number (float x) fit = absurd (true≢false (sym fit))

mutual
  has_numbers : (n : ℕ) (d : Data) → fits n d ≡ true → tree.HasNumbers (outline d)
  has_numbers n null fit = tt
  has_numbers n (boolean b) fit = tt
  has_numbers n (number x) fit = is_number x fit
  has_numbers n (string s) fit = tt
  has_numbers n (array ds) fit = items_numbers (n - 1) ds (and_parts (nat_lt 0 n) _ fit).1
  has_numbers n (object ms) fit = members_numbers (n - 1) None ms (and_parts (nat_lt 0 n) _ fit).1

  items_numbers : (n : ℕ) (ds : Items) → items_fit n ds ≡ true → tree.ItemsHaveNumbers (items_outline ds)
  items_numbers n no_items fit = tt
  items_numbers n (item d ds) fit = let parts = and_parts (fits n d) (items_fit n ds) fit in (has_numbers n d parts.0, items_numbers n ds parts.1)

  members_numbers : (n : ℕ) (last : Option (List ℕ)) (ms : Members) → members_fit n last ms ≡ true → tree.MembersHaveNumbers (members_outline ms)
  members_numbers n last no_members fit = tt
  members_numbers n last (member k d ms) fit =
      let rest = and_parts (fits n d) (members_fit n (Some k) ms) (and_parts (follows last k) _ fit).1 in (has_numbers n d rest.0, members_numbers n (Some k) ms rest.1)

mutual
  same_depth : (d : Data) → tree.depth (outline d) ≡ depth d
  same_depth null = refl
  same_depth (boolean b) = refl
  same_depth (number n) = refl
  same_depth (string s) = refl
  same_depth (array ds) = ap suc (same_items ds)
  same_depth (object ms) = ap suc (same_members ms)

  same_items : (ds : Items) → tree.items_depth (items_outline ds) ≡ items_depth ds
  same_items no_items = refl
  same_items (item d ds) = ap₂ max (same_depth d) (same_items ds)

  same_members : (ms : Members) → tree.members_depth (members_outline ms) ≡ members_depth ms
  same_members no_members = refl
  same_members (member k d ms) = ap₂ max (same_depth d) (same_members ms)

abbrev parsed : Option (json.Json × List Token) → Option Data
parsed o = option_and_then of_json (option_and_then (λ p. json.if_last p.0 p.1) o)

mutual
  within : (n : ℕ) (d : Data) → fits n d ≡ true → depth d ≤ n
  within n null fit = omega arith
  within n (boolean b) fit = omega arith
  within n (number x) fit = omega arith
  within n (string s) fit = omega arith
  within n (array ds) fit = let parts = and_parts (nat_lt 0 n) (items_fit (n - 1) ds) fit in omega (arith, ltb-true 0 n parts.0, items_within (n - 1) ds parts.1)
  within n (object ms) fit = let parts = and_parts (nat_lt 0 n) (members_fit (n - 1) None ms) fit in omega (arith, ltb-true 0 n parts.0, members_within (n - 1) None ms parts.1)

  items_within : (n : ℕ) (ds : Items) → items_fit n ds ≡ true → items_depth ds ≤ n
  items_within n no_items fit = omega arith
  items_within n (item d ds) fit = let parts = and_parts (fits n d) (items_fit n ds) fit in omega (arith, within n d parts.0, items_within n ds parts.1)

  members_within : (n : ℕ) (last : Option (List ℕ)) (ms : Members) → members_fit n last ms ≡ true → members_depth ms ≤ n
  members_within n last no_members fit = omega arith
  members_within n last (member k d ms) fit =
      let rest = and_parts (fits n d) (members_fit n (Some k) ms) (and_parts (follows last k) _ fit).1 in omega (arith, within n d rest.0, members_within n (Some k) ms rest.1)

-- a tree that fits is read of its own text
pub read_text : (d : Data) → is_fit d ≡ true → read (compact_text d) ≡ Some d
read_text d fit =
    let j = outline d in
    let same = ap tokens (sym (print-outline d)) ∙ tokens-print (tree.json_tokens j) (ArePrintable-json_tokens j (has_numbers max_depth d fit)) in
    ap parsed (ap (json.value max_depth) (same ∙ sym (append-nil _)) ∙ value-json_tokens j max_depth [] (omega (arith, same_depth d, within max_depth d fit))) ∙ normal max_depth d fit

-- ---- its numbers are whole

whole_number : (n : Num) → is_whole n ≡ true → has_float (number n) ≡ false
whole_number (unsigned n) fit = refl
whole_number (negative z) fit = refl
whole_number (float x) fit = absurd (true≢false (sym fit))

mutual
  pub has_no_float : (n : ℕ) (d : Data) → fits n d ≡ true → has_float d ≡ false
  has_no_float n null fit = refl
  has_no_float n (boolean b) fit = refl
  has_no_float n (number x) fit = whole_number x fit
  has_no_float n (string s) fit = refl
  has_no_float n (array ds) fit = items_have_no_float (n - 1) ds (and_parts (nat_lt 0 n) _ fit).1
  has_no_float n (object ms) fit = members_have_no_float (n - 1) None ms (and_parts (nat_lt 0 n) _ fit).1

  items_have_no_float : (n : ℕ) (ds : Items) → items_fit n ds ≡ true → items_have_float ds ≡ false
  items_have_no_float n no_items fit = refl
  items_have_no_float n (item d ds) fit = let parts = and_parts (fits n d) (items_fit n ds) fit in ap₂ (◌||◌) (has_no_float n d parts.0) (items_have_no_float n ds parts.1)

  members_have_no_float : (n : ℕ) (last : Option (List ℕ)) (ms : Members) → members_fit n last ms ≡ true → members_have_float ms ≡ false
  members_have_no_float n last no_members fit = refl
  members_have_no_float n last (member k d ms) fit =
      let rest = and_parts (fits n d) (members_fit n (Some k) ms) (and_parts (follows last k) _ fit).1 in ap₂ (◌||◌) (has_no_float n d rest.0) (members_have_no_float n (Some k) ms rest.1)
