-- Each part of a tree that was read stands in order, and fits where its numbers are whole
use Rattle.std.proofs.Common.{◌≡◌, ℕ, zero, suc, ◌+◌, ◌-◌, ◌<◌, ◌≤◌, ◌^◌, max, ℤ, pos, negsuc, List, length, drop, Bool, true, false, true≢false, ◌&&◌, ◌||◌, nat_lt, nat_le, cond, Option, Some, None, option_map, option_and_then, Ordering, Less, Equal, Greater, is_lt, refl, sym, ap, ap₂, ◌∙◌, subst, nat_cmp, arith}
use Rattle.std.specs.Prelude.{⊤, slice_index, ◌==◌}
use Rattle.std.specs.Ordering.{match_ordering, ordering_reverse}
use Rattle.std.specs.Cmp.Lexicographic.{slice_cmp}
use Rattle.std.specs.Float.{binary64, float_is_finite}
use Rattle.std.proofs.lemmas.Cmp.{nat_list_cmp_total}
use Rattle.std.proofs.lemmas.Bool.{ltb-true, leb-true, lt-ltb, or_parts}
use Rattle.fast_float.specs.Text.{minus, Parts, scan, digits_of, nearest, with_sign}
use Rattle.json.specs.Json as json
use Rattle.json.specs.Lex.{tokens}
use Rattle.serde_json.specs.Data.{Num, unsigned, negative, float, Data, null, boolean, number, string, array, object, Items, no_items, item, Members, no_members, member, put, depth, items_depth, members_depth}
use Rattle.serde_json.specs.Find.{is_float}
use Rattle.serde_json.specs.Read.{max_depth, is_integer, float_of, number_from, number_of, of_json, of_items, of_members, read}
use Rattle.serde_json.specs.Written.{has_float, items_have_float, members_have_float}
use Rattle.eu_text.specs.Fit.{is_whole, follows, fits, items_fit, members_fit}
use Rattle.eu_text.proofs.OrderLemmas.{IsBelow, below_more}

-- ---- what is so of each tree that was read

abbrev pub FitsNegative : ℤ → Type 0
FitsNegative (pos n) = ⊥
FitsNegative (negsuc n) = n < 2 ^ 63

abbrev pub FitsNumber : Num → Type 0
FitsNumber (unsigned n) = n < 2 ^ 64
FitsNumber (negative z) = FitsNegative z
FitsNumber (float x) = ⊤

abbrev mutual
  pub IsOrdered : Data → Type 0
  IsOrdered null = ⊤
  IsOrdered (boolean b) = ⊤
  IsOrdered (number n) = FitsNumber n
  IsOrdered (string s) = ⊤
  IsOrdered (array ds) = ItemsOrdered ds
  IsOrdered (object ms) = MembersOrdered ms

  pub ItemsOrdered : Items → Type 0
  ItemsOrdered no_items = ⊤
  ItemsOrdered (item d ds) = IsOrdered d × ItemsOrdered ds

  pub MembersOrdered : Members → Type 0
  MembersOrdered no_members = ⊤
  MembersOrdered (member k d ms) = IsBelow k ms × IsOrdered d × MembersOrdered ms

-- ---- a member that is put

below_at : (o : Ordering) (j k l : List ℕ) (d e : Data) (ms rest : Members) → slice_cmp nat_cmp j k ≡ Less → slice_cmp nat_cmp j l ≡ Less → IsBelow j ms → IsBelow j rest
    → IsBelow j (match_ordering o (member k d (member l e ms)) (member l d ms) (member l e rest))
below_at Less j k l d e ms rest first second later more = (first, (second, later))
below_at Equal j k l d e ms rest first second later more = (second, later)
below_at Greater j k l d e ms rest first second later more = (second, more)

below_put : (j k : List ℕ) (d : Data) (ms : Members) → slice_cmp nat_cmp j k ≡ Less → IsBelow j ms → IsBelow j (put k d ms)
below_put j k d no_members less below = (less, tt)
below_put j k d (member l e ms) less below = below_at (slice_cmp nat_cmp k l) j k l d e ms (put k d ms) less below.0 below.1 (below_put j k d ms less below.1)

put_at : (o : Ordering) (k l : List ℕ) (d e : Data) (ms rest : Members) → slice_cmp nat_cmp k l ≡ o → IsOrdered d → IsOrdered e → IsBelow l ms → MembersOrdered ms
    → (slice_cmp nat_cmp l k ≡ Less → IsBelow l rest) → MembersOrdered rest
    → MembersOrdered (match_ordering o (member k d (member l e ms)) (member l d ms) (member l e rest))
put_at Less k l d e ms rest is value here below later more order = ((is, below_more k l ms is below), value, (below, here, later))
put_at Equal k l d e ms rest is value here below later more order = (below, value, later)
put_at Greater k l d e ms rest is value here below later more order = (more (nat_list_cmp_total.antisymm l k ∙ ap ordering_reverse is), here, order)

pub fit_put : (k : List ℕ) (d : Data) (ms : Members) → IsOrdered d → MembersOrdered ms → MembersOrdered (put k d ms)
fit_put k d no_members value order = (tt, value, tt)
fit_put k d (member l e ms) value order =
    put_at _ k l d e ms (put k d ms) refl value order.1 order.0 order.2 (λ less. below_put l k d ms less order.0) (fit_put k d ms value order.2)

-- ---- what is read

abbrev Each : {A : Type 0} → (A → Type 0) → Option A → Type 0
Each P None = ⊤
Each P (Some a) = P a

each_map : {A B : Type 0} (P : A → Type 0) (Q : B → Type 0) (f : A → B) → ((a : A) → P a → Q (f a)) → (o : Option A) → Each P o → Each Q (option_map f o)
each_map P Q f keeps None each = tt
each_map P Q f keeps (Some a) each = keeps a each

each_and_then : {A B : Type 0} (P : A → Type 0) (Q : B → Type 0) (f : A → Option B) → ((a : A) → P a → Each Q (f a)) → (o : Option A) → Each P o → Each Q (option_and_then f o)
each_and_then P Q f keeps None each = tt
each_and_then P Q f keeps (Some a) each = keeps a each

-- ---- numbers

fits_float : (b : Bool) (x : Num) → FitsNumber x → Each FitsNumber (cond b (Some x) None)
fits_float true x fits = fits
fits_float false x fits = tt

fits_unsigned : (i l : Bool) (m : ℕ) (f : Option Num) → (l ≡ true → m < 2 ^ 64) → Each FitsNumber f → Each FitsNumber (cond (i && l) (Some (unsigned m)) f)
fits_unsigned true true m f less rest = less refl
fits_unsigned true false m f less rest = rest
fits_unsigned false l m f less rest = rest

fits_below : (m : ℕ) → nat_lt 0 m ≡ true → m ≤ 2 ^ 63 → FitsNegative (with_sign true m)
fits_below zero some le = absurd (omega (arith, ltb-true 0 zero some))
fits_below (suc m) some le = omega arith

fits_negative : (i s l : Bool) (m : ℕ) (f : Option Num) → (s ≡ true → nat_lt 0 m ≡ true) → (l ≡ true → m ≤ 2 ^ 63) → Each FitsNumber f → Each FitsNumber (cond ((i && s) && l) (Some (negative (with_sign true m))) f)
fits_negative true true true m f some le rest = fits_below m (some refl) (le refl)
fits_negative true true false m f some le rest = rest
fits_negative true false l m f some le rest = rest
fits_negative false s l m f some le rest = rest

fits_from : (sign : Bool) (p : Parts) → Each FitsNumber (number_from sign p)
fits_from false p = fits_unsigned (is_integer p) (nat_lt (digits_of p) (2 ^ 64)) (digits_of p) _ (λ e. ltb-true (digits_of p) (2 ^ 64) e) (fits_float (float_is_finite (nearest binary64 false p)) _ tt)
fits_from true p = fits_negative (is_integer p) (nat_lt 0 (digits_of p)) (nat_le (digits_of p) (2 ^ 63)) (digits_of p) _ (λ e. e) (λ e. leb-true (digits_of p) (2 ^ 63) e) (fits_float (float_is_finite (nearest binary64 true p)) _ tt)

fits_either : (b : Bool) (n m : Option Num) → Each FitsNumber n → Each FitsNumber m → Each FitsNumber (cond b n m)
fits_either true n m first second = first
fits_either false n m first second = second

fits_number : (s : List ℕ) → Each FitsNumber (number_of s)
unfolding number_of
fits_number s = fits_either (slice_index s 0 == minus) _ _ (fits_from true (scan (drop 1 s))) (fits_from false (scan s))

mutual
  of_json_fit : (j : json.Json) → Each IsOrdered (of_json j)
  of_json_fit json.null = tt
  of_json_fit (json.boolean b) = tt
  of_json_fit (json.number s) = each_map FitsNumber IsOrdered number (λ a x. x) (number_of s) (fits_number s)
  of_json_fit (json.string s) = tt
  of_json_fit (json.array js) = each_map ItemsOrdered IsOrdered array (λ a x. x) _ (of_items_fit js)
  of_json_fit (json.object ms) = each_map MembersOrdered IsOrdered object (λ a x. x) _ (of_members_fit ms no_members tt)

  of_items_fit : (js : json.Items) → Each ItemsOrdered (of_items js)
  of_items_fit json.no_items = tt
  of_items_fit (json.item j js) =
      each_and_then IsOrdered ItemsOrdered _ (λ d x. each_map ItemsOrdered ItemsOrdered (item d) (λ ds y. (x, y)) _ (of_items_fit js)) _ (of_json_fit j)

  of_members_fit : (ms : json.Members) (found : Members) → MembersOrdered found → Each MembersOrdered (of_members ms found)
  of_members_fit json.no_members found order = order
  of_members_fit (json.member k j ms) found order =
      each_and_then IsOrdered MembersOrdered _ (λ d x. of_members_fit ms (put k d found) (fit_put k d found x order)) _ (of_json_fit j)

parsed_fit : (o : Option json.Json) → Each IsOrdered (option_and_then of_json o)
parsed_fit None = tt
parsed_fit (Some j) = of_json_fit j

pub read_ordered : (text : List ℕ) (d : Data) → read text ≡ Some d → IsOrdered d
read_ordered text d is =
    let parsed = option_and_then (λ p. json.if_last p.0 p.1) (json.value max_depth (tokens text)) in
    subst (Each IsOrdered) is (parsed_fit parsed)

-- ---- such a tree of whole numbers fits

whole_number : (n : Num) → is_float n ≡ false → FitsNumber n → is_whole n ≡ true
whole_number (unsigned n) whole fits = lt-ltb n (2 ^ 64) fits
whole_number (negative (pos n)) whole fits = absurd fits
whole_number (negative (negsuc n)) whole fits = lt-ltb n (2 ^ 63) fits
whole_number (float x) whole fits = absurd (true≢false whole)

follows_below : (last : Option (List ℕ)) (k : List ℕ) (d : Data) (ms : Members) → Each (λ j. IsBelow j (member k d ms)) last → follows last k ≡ true
follows_below None k d ms below = refl
follows_below (Some j) k d ms below = ap is_lt below.0

mutual
  pub ordered_fits : (n : ℕ) (d : Data) → IsOrdered d → has_float d ≡ false → depth d ≤ n → fits n d ≡ true
  ordered_fits n null order whole within = refl
  ordered_fits n (boolean b) order whole within = refl
  ordered_fits n (number x) order whole within = whole_number x whole order
  ordered_fits n (string s) order whole within = refl
  ordered_fits n (array ds) order whole within = ap₂ (◌&&◌) (lt-ltb 0 n (omega (arith, within))) (items_ordered_fit (n - 1) ds order whole (omega (arith, within)))
  ordered_fits n (object ms) order whole within = ap₂ (◌&&◌) (lt-ltb 0 n (omega (arith, within))) (members_ordered_fit (n - 1) None ms tt order whole (omega (arith, within)))

  items_ordered_fit : (n : ℕ) (ds : Items) → ItemsOrdered ds → items_have_float ds ≡ false → items_depth ds ≤ n → items_fit n ds ≡ true
  items_ordered_fit n no_items order whole within = refl
  items_ordered_fit n (item d ds) order whole within =
      let parts = or_parts (has_float d) (items_have_float ds) whole in
      ap₂ (◌&&◌) (ordered_fits n d order.0 parts.0 (omega (arith, within))) (items_ordered_fit n ds order.1 parts.1 (omega (arith, within)))

  members_ordered_fit : (n : ℕ) (last : Option (List ℕ)) (ms : Members) → Each (λ j. IsBelow j ms) last → MembersOrdered ms → members_have_float ms ≡ false → members_depth ms ≤ n → members_fit n last ms ≡ true
  members_ordered_fit n last no_members below order whole within = refl
  members_ordered_fit n last (member k d ms) below order whole within =
      let parts = or_parts (has_float d) (members_have_float ms) whole in
      ap₂ (◌&&◌) (follows_below last k d ms below)
      (ap₂ (◌&&◌) (ordered_fits n d order.1 parts.0 (omega (arith, within))) (members_ordered_fit n (Some k) ms order.0 order.2 parts.1 (omega (arith, within))))
