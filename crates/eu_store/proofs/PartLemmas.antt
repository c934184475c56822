-- Parts of a table stay right where no more than last updates moves in them, and what they show is the table
use Rattle.std.proofs.Common.{◌≡◌, ◌≢◌, ℕ, zero, suc, ◌+◌, ◌-◌, ◌*◌, ◌/◌, ◌%◌, ◌<◌, ◌≤◌, ◌⊎◌, inl, inr, List, [], ◌∷◌, ◌++◌, length, get_or, set, take, drop, slice_get, refl, sym, ap, ◌∙◌, Option, None, Some, arith}
use Rattle.std.specs.Arc.{arc_value}
use Rattle.std.specs.List.{swap_remove}
use Rattle.std.specs.Map.{keys_of, values_of}
use Rattle.std.specs.Option.{option_and_then, option_map}
use Rattle.std.proofs.Math.Nat.{mod-lt}
use Rattle.std.proofs.lemmas.Bool.{cases_lt}
use Rattle.std.proofs.lemmas.List.{length-drop, length-map, length-take, take_all, take_more}
use Rattle.std.proofs.lemmas.Nat.{div-add-mod'}
use Rattle.std.proofs.lemmas.Option.{get_or_from_slice_get, slice_get-map, slice_get_past, slice_get_within}
use Rattle.indexmap.specs.IndexMap.{set_value_at}
use Rattle.eu_base.specs.declared.names.Key.{Key}
use Rattle.eu_model.specs.declared.views.Listed.{Listed}
use Rattle.eu_store.specs.declared.directory.Directory.{Directory}
use Rattle.eu_store.specs.Order.{undated, undated_at, undated_in, undated_of, window, AreOrdered, AreParts, AreWhole, IsForgotten, Part}
use Rattle.eu_store.proofs.FoundLemmas.{entry_there}
use Rattle.eu_store.proofs.OrderLemmas.{order_kept}
use Rattle.eu_store.proofs.PlaceLemmas.{get_take, map_swapped, swapped_other}

-- a place is in the part that has its number
parted : (p : ℕ) → (p / 512 * 512 + p % 512 ≡ p) × (p % 512 < 512)
parted p = (div-add-mod' p 512, mod-lt p (omega arith))

in_window : (n p : ℕ) → n * 512 ≤ p → p < n * 512 + 512 → p / 512 ≡ n
in_window n p low high = let at = parted p in omega (arith, at.0, at.1, low, high)

-- ---- lists that are alike at some places

module _ {A : Type 0} where
  none_left : (n : ℕ) → ◌≡◌ {A = List A} (drop n []) []
  none_left zero = refl
  none_left (suc n) = refl

  taken_alike : (m : ℕ) (xs ys : List A) → ((x : ℕ) → x < m → slice_get ys x ≡ slice_get xs x) → take m ys ≡ take m xs
  taken_alike zero xs ys h = refl
  taken_alike (suc m) [] [] h = refl
  taken_alike (suc m) [] (y ∷ ys) h = absurd (differ (h 0 (omega arith)))
    where
      differ : ◌≡◌ {A = Option A} (Some y) None → ⊥
      differ e = cc
  taken_alike (suc m) (x ∷ xs) [] h = absurd (differ (h 0 (omega arith)))
    where
      differ : ◌≡◌ {A = Option A} None (Some x) → ⊥
      differ e = cc
  taken_alike (suc m) (x ∷ xs) (y ∷ ys) h = λ j. same (h 0 (omega arith)) j ∷ taken_alike m xs ys (λ i low. h (suc i) (omega (arith, low))) j
    where
      same : ◌≡◌ {A = Option A} (Some y) (Some x) → y ≡ x
      same e = cc

  slices_alike : (m low : ℕ) (xs ys : List A) → ((x : ℕ) → low ≤ x → x < low + m → slice_get ys x ≡ slice_get xs x) → take m (drop low ys) ≡ take m (drop low xs)
  slices_alike m zero xs ys h = taken_alike m xs ys (λ x low. h x (omega arith) (omega (arith, low)))
  slices_alike m (suc low) [] [] h = refl
  slices_alike m (suc low) [] (y ∷ ys) h = slices_alike m low [] ys (λ x from to. h (suc x) (omega (arith, from)) (omega (arith, to))) ∙ ap (take m) (none_left low)
  slices_alike m (suc low) (x ∷ xs) [] h = ap (take m) (sym (none_left low)) ∙ slices_alike m low xs [] (λ i from to. h (suc i) (omega (arith, from)) (omega (arith, to)))
  slices_alike m (suc low) (x ∷ xs) (y ∷ ys) h = slices_alike m low xs ys (λ i from to. h (suc i) (omega (arith, from)) (omega (arith, to)))

  get_drop : (low o : ℕ) (xs : List A) → slice_get (drop low xs) o ≡ slice_get xs (low + o)
  get_drop zero o xs = ap (slice_get xs) (none_more o)
    where
      none_more : (o : ℕ) → o ≡ 0 + o
      none_more o = omega arith
  get_drop (suc low) o [] = refl
  get_drop (suc low) o (x ∷ xs) = get_drop low o xs ∙ ap (slice_get (x ∷ xs)) (one_up low o)
    where
      one_up : (low o : ℕ) → suc (low + o) ≡ suc low + o
      one_up low o = omega arith

  -- what stands in a part stands in the list
  get_window : (xs : List A) (p : ℕ) → slice_get (window (p / 512) xs) (p % 512) ≡ slice_get xs p
  get_window xs p =
      let at = parted p in
      get_take 512 (p % 512) (drop (p / 512 * 512) xs) at.1 ∙ get_drop (p / 512 * 512) (p % 512) xs ∙ ap (slice_get xs) at.0

  -- one more of those from a place on
  pub gathered_more : (xs : List A) (b p : ℕ) (x : A) → b ≤ p → slice_get xs p ≡ Some x → take (p + 1 - b) (drop b xs) ≡ take (p - b) (drop b xs) ++ x ∷ []
  gathered_more xs b p x from there =
      let one : p + 1 - b ≡ (p - b) + 1 = omega (arith, from) in
      let here : b + (p - b) ≡ p = omega (arith, from) in
      let at = get_drop b (p - b) xs ∙ ap (slice_get xs) here ∙ there in
      ap (λ m. take m (drop b xs)) one ∙ take_more (drop b xs) (p - b) x (slice_get_within (drop b xs) (p - b) x at) ∙ ap (λ y. take (p - b) (drop b xs) ++ y ∷ []) (get_or_from_slice_get (drop b xs) (p - b) x x at)

  -- all of a part, which the list may end
  pub gathered_all : (xs : List A) (n e : ℕ) → n * 512 ≤ e → e ≤ length xs → e ≤ n * 512 + 512 → (e ≡ n * 512 + 512) ⊎ (e ≡ length xs) → take (e - n * 512) (drop (n * 512) xs) ≡ window n xs
  gathered_all xs n e from low high (inl full) = let all : e - n * 512 ≡ 512 = omega (arith, full) in ap (λ m. take m (drop (n * 512) xs)) all
  gathered_all xs n e from low high (inr end) =
      let long : length (drop (n * 512) xs) ≡ length xs - n * 512 = length-drop (n * 512) xs in
      take_all (e - n * 512) (drop (n * 512) xs) (omega (arith, long, end)) ∙ sym (take_all 512 (drop (n * 512) xs) (omega (arith, long, end, high)))

  get_more : (xs : List A) (y : A) (x : ℕ) → x ≢ length xs → slice_get (xs ++ y ∷ []) x ≡ slice_get xs x
  get_more [] y zero apart = absurd (apart refl)
  get_more [] y (suc x) apart = refl
  get_more (z ∷ xs) y zero apart = refl
  get_more (z ∷ xs) y (suc x) apart = get_more xs y x (λ same. apart (ap suc same))

  get_swapped : (xs : List A) (p x : ℕ) (d : A) → x ≢ p → x ≢ length xs - 1 → slice_get (take (length xs - 1) (set xs p (get_or xs (length xs - 1) d))) x ≡ slice_get xs x
  get_swapped xs p x d not_p not_last = by (cases_lt x (length xs - 1))
    where
      by : (x < length xs - 1) ⊎ (length xs - 1 ≤ x) → slice_get (take (length xs - 1) (set xs p (get_or xs (length xs - 1) d))) x ≡ slice_get xs x
      by (inl under) = swapped_other xs p x d under not_p
      by (inr over) =
          let past : length xs ≤ x = beyond (length xs) x over not_last in
          slice_get_past _ x (omega (arith, over, length-take (length xs - 1) (set xs p (get_or xs (length xs - 1) d)))) ∙ sym (slice_get_past xs x past)
        where
          beyond : (n x : ℕ) → n - 1 ≤ x → x ≢ n - 1 → n ≤ x
          beyond n x h apart = omega (arith, h, apart)

-- ---- each step

abbrev Entries : Type 0
Entries = List (Key × Listed)

-- a step that changes what stands at two places
step : (es fs : Entries) (parts after : List (Option Part)) (p q : ℕ) → AreParts es parts → ((x : ℕ) → x ≢ p → x ≢ q → slice_get (undated_of fs) x ≡ slice_get (undated_of es) x)
    → ((n : ℕ) (c : Part) → slice_get after n ≡ Some (Some c) → (slice_get parts n ≡ Some (Some c)) × (p / 512 ≢ n) × (q / 512 ≢ n)) → AreParts fs after
step es fs parts after p q right same left n c at =
    let before = left n c at in
    right n c before.0 ∙ sym (slices_alike 512 (n * 512) (undated_of es) (undated_of fs)
    (λ x from to. same x (λ e. before.1 (ap (λ y. y / 512) (sym e) ∙ in_window n x from to)) (λ e. before.2 (ap (λ y. y / 512) (sym e) ∙ in_window n x from to))))

pub parts_put : (es fs : Entries) (k : Key) (v : Listed) (parts after : List (Option Part)) → AreParts es parts → IsForgotten (length es) parts after → fs ≡ es ++ (k, v) ∷ [] → AreParts fs after
parts_put es fs k v parts after right left made =
    step es fs parts after (length es) (length es) right
    (λ x apart _. ap (λ (l : Entries). slice_get (undated_of l) x) made ∙ ap (λ l. slice_get l x) (pushed es) ∙ get_more (undated_of es) (undated v) x (λ e. apart (e ∙ length-map es (λ f. undated f.1))))
    (λ n c at. let before = left n c at in (before.0, before.1, before.1))
  where
    pushed : (es : Entries) → undated_of (es ++ (k, v) ∷ []) ≡ undated_of es ++ undated v ∷ []
    pushed [] = refl
    pushed (e ∷ es) = ap (λ is. undated e.1 ∷ is) (pushed es)

pub parts_taken : (es fs : Entries) (p : ℕ) (d : Key × Listed) (parts after : List (Option Part)) → AreParts es parts → 0 < length es
    → ((n : ℕ) (c : Part) → slice_get after n ≡ Some (Some c) → (slice_get parts n ≡ Some (Some c)) × (p / 512 ≢ n) × ((length es - 1) / 512 ≢ n)) → fs ≡ swap_remove es p d → AreParts fs after
parts_taken es fs p d parts after right some left made =
    step es fs parts after p (length es - 1) right
    (λ x not_p not_last. ap (λ (l : Entries). slice_get (undated_of l) x) made ∙ ap (λ l. slice_get l x) (map_swapped (λ e. undated e.1) es p d (undated d.1) some)
    ∙ get_swapped (undated_of es) p x (undated d.1) not_p (λ e. not_last (e ∙ ap (λ n. n - 1) (length-map es (λ f. undated f.1)))))
    left

pub parts_set : (es : Entries) (i : ℕ) (v : Listed) (parts after : List (Option Part)) → AreParts es parts → IsForgotten i parts after → AreParts (set_value_at es i v) after
parts_set es i v parts after right left =
    step es (set_value_at es i v) parts after i i right (λ x apart _. elsewhere es i x apart) (λ n c at. let before = left n c at in (before.0, before.1, before.1))
  where
    elsewhere : (es : Entries) (i x : ℕ) → x ≢ i → slice_get (undated_of (set_value_at es i v)) x ≡ slice_get (undated_of es) x
    elsewhere [] i x apart = refl
    elsewhere (e ∷ es) zero zero apart = absurd (apart refl)
    elsewhere (e ∷ es) zero (suc x) apart = refl
    elsewhere (e ∷ es) (suc i) zero apart = refl
    elsewhere (e ∷ es) (suc i) (suc x) apart = elsewhere es i x (λ same. apart (ap suc same))

pub parts_stay : (es fs : Entries) (parts : List (Option Part)) → AreParts es parts → undated_of fs ≡ undated_of es → AreParts fs parts
parts_stay es fs parts right same n c at = right n c at ∙ ap (window n) (sym same)

-- what another value at a place leaves
pub keys_set : (es : Entries) (i : ℕ) (v : Listed) → keys_of (set_value_at es i v) ≡ keys_of es
keys_set [] i v = refl
keys_set (e ∷ es) zero v = refl
keys_set (e ∷ es) (suc i) v = ap (λ ks. e.0 ∷ ks) (keys_set es i v)

pub set_alike : (es : Entries) (i : ℕ) (v : Listed) → Some (undated v) ≡ slice_get (undated_of es) i → undated_of (set_value_at es i v) ≡ undated_of es
set_alike [] i v same = refl
set_alike (e ∷ es) zero v same = ap (λ x. x ∷ undated_of es) (first same)
  where
    first : ◌≡◌ {A = Option Listed} (Some (undated v)) (Some (undated e.1)) → undated v ≡ undated e.1
    first h = cc
set_alike (e ∷ es) (suc i) v same = ap (λ xs. undated e.1 ∷ xs) (set_alike es i v same)

pub undated_of_value : (es : Entries) (i : ℕ) (l : Listed) → slice_get (values_of es) i ≡ Some l → slice_get (undated_of es) i ≡ Some (undated l)
undated_of_value [] i l there = absurd (nothing there)
  where
    nothing : ◌≡◌ {A = Option Listed} None (Some l) → ⊥
    nothing e = cc
undated_of_value (e ∷ es) zero l there = ap (option_map undated) there
undated_of_value (e ∷ es) (suc i) l there = undated_of_value es i l there

-- a change that keeps each key, and each lease but for its last update
pub ordered_alike : (es fs : Entries) (kept : Option Directory) → keys_of fs ≡ keys_of es → undated_of fs ≡ undated_of es → AreOrdered es kept → AreOrdered fs kept
ordered_alike es fs None keys same is = tt
ordered_alike es fs (Some d) keys same is = (order_kept es fs d.places.items is.0 keys, parts_stay es fs d.parts.items is.1 same)

pub kept_part : (es : Entries) (parts after : List (Option Part)) (number : ℕ) (part : Part) → AreParts es parts → (arc_value part).items ≡ window number (undated_of es)
    → ((n : ℕ) (c : Part) → slice_get after n ≡ Some (Some c) → (slice_get parts n ≡ Some (Some c)) ⊎ ((n ≡ number) × (c ≡ part))) → AreParts es after
kept_part es parts after number part right made left n c at = by (left n c at)
  where
    by : (slice_get parts n ≡ Some (Some c)) ⊎ ((n ≡ number) × (c ≡ part)) → (arc_value c).items ≡ window n (undated_of es)
    by (inl before) = right n c before
    by (inr now) = ap (λ (q : Part). (arc_value q).items) now.1 ∙ made ∙ ap (λ m. window m (undated_of es)) (sym now.0)

-- ---- what all parts show

pub part_lookup : (es : Entries) (parts : List Part) → AreWhole es parts → (p : ℕ) → p < length es → undated_at (undated_in parts) p ≡ slice_get (undated_of es) p
part_lookup es parts whole p low =
    let at = parted p in
    let c = entry_there parts (p / 512) (omega (arith, at.0, low, whole.1)) in
    ap (λ o. option_and_then (λ w. slice_get w (p % 512)) o) (slice_get-map (λ (q : Part). (arc_value q).items) parts (p / 512) ∙ ap (option_map (λ (q : Part). (arc_value q).items)) c.1)
    ∙ ap (λ w. slice_get w (p % 512)) (whole.0 (p / 512) c.0 c.1)
    ∙ get_window (undated_of es) p
