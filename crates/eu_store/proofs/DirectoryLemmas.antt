-- What is kept for readers stays right where keys and instances stay, and what it says is the listing
use Rattle.std.proofs.Common.{◌≡◌, ℕ, suc, ◌+◌, ◌-◌, ◌<◌, true, List, [], ◌∷◌, ◌++◌, filter, map, length, get_or, take, slice_get, slice_index, refl, sym, ap, ◌∙◌, Option, None, Some, is_some, arith, Bor}
use Rattle.std.specs.List.{IsDistinct}
use Rattle.std.specs.FinMap.{entries}
use Rattle.std.specs.Map.{keys_of, lookup, values_of}
use Rattle.std.specs.Map.Iter.{deref_pair}
use Rattle.std.specs.Option.{option_map, option_map_or}
use Rattle.std.proofs.lemmas.List.{length-map, map-append, map_more, take_more}
use Rattle.std.proofs.lemmas.Option.{get_or_from_slice_get, slice_get-get_or, slice_get-map}
use Rattle.eu_base.specs.declared.names.Key.{Key}
use Rattle.eu_base.specs.Values.{key_eq}
use Rattle.eu_model.specs.Machine.{duration}
use Rattle.eu_model.specs.View.{is_of}
use Rattle.eu_model.specs.declared.views.Listed.{Listed}
use Rattle.eu_store.specs.Order.{at_places, undated, undated_at, undated_in, undated_of, keys_held, lasting, snapped, AreWhole, IsInOrder, Part}
use Rattle.eu_store.specs.Stored.{deadline_of, deadlines, listing_of, rows_of}
use Rattle.eu_model.proofs.ListingLemmas.{filter_true}
use Rattle.eu_store.proofs.OrderLemmas.{Entries, held, listing_at, row_held}
use Rattle.eu_store.proofs.FoundLemmas.{entry_there}
use Rattle.eu_store.proofs.PartLemmas.{part_lookup}
use Rattle.eu_store.proofs.PlaceLemmas.{place_within, same_all}
use Rattle.eu_store.proofs.RowLemmas.{keys_shown}

-- ---- what is listed

-- a lease that lasts until its deadline is that lease
lasting_undated : (l : Listed) → lasting (deadline_of l) (undated l) ≡ l
lasting_undated l = λ j. record l { times = record l.times { updated = less j } }
  where
    less : l.times.updated + duration l.instance - duration l.instance ≡ l.times.updated
    less = omega arith

both_at : (es : Entries) (parts : List (List Listed)) (places : List ℕ) → ((p : ℕ) → p < length es → undated_at parts p ≡ slice_get (undated_of es) p)
    → ((i : ℕ) → i < length places → get_or places i 0 < length es) → at_places (values_of es) places ≡ map Some (snapped parts (deadlines es) places)
both_at es parts [] whole within = refl
both_at es parts (p ∷ ps) whole within =
    let low = within 0 (omega arith) in
    let entry = entry_there es p low in
    let l = entry.0.1 in
    let there = whole p low ∙ slice_get-map (λ e. undated e.1) es p ∙ ap (option_map (λ (e : Key × Listed). undated e.1)) entry.1 in
    let value = slice_get-map (λ e. e.1) es p ∙ ap (option_map (λ (e : Key × Listed). e.1)) entry.1 in
    let ends : slice_index (deadlines es) p ≡ deadline_of l = get_or_from_slice_get (deadlines es) p (deadline_of l) 0 (slice_get-map (λ e. deadline_of e.1) es p ∙ ap (option_map (λ (e : Key × Listed). deadline_of e.1)) entry.1) in
    let here = value ∙ ap (λ (x : Listed). Some x) (sym (ap (λ d. lasting d (undated l)) ends ∙ lasting_undated l)) in
    (λ j. here j ∷ both_at es parts ps whole (λ i under. within (suc i) (omega (arith, under))) j)
    ∙ ap (λ o. map (λ (x : Listed). Some x) (option_map_or (λ x. lasting (slice_index (deadlines es) p) x ∷ snapped parts (deadlines es) ps) o (snapped parts (deadlines es) ps))) (sym there)

pub snapshot_is : (es : Entries) (places : List ℕ) (parts : List Part) → IsDistinct key_eq (keys_of es) → IsInOrder es places → AreWhole es parts → snapped (undated_in parts) (deadlines es) places ≡ listing_of None (held es)
snapshot_is es places parts apart order whole =
    let in_order : at_places (keys_of es) places ≡ map Some (filter (is_of None) (keys_held es)) = order ∙ ap (map (λ (k : Key). Some k)) (sym (filter_true (keys_held es))) in
    same_all (snapped (undated_in parts) (deadlines es) places) (listing_of None (held es)) (
    sym (both_at es (undated_in parts) places (part_lookup es parts whole) (λ i low. omega (arith, place_within (keys_of es) places (keys_held es) i order low, length-map es (λ e. e.0))))
    ∙ listing_at None es places apart in_order)

-- what was found, as a list
abbrev pub found : Option Listed → List Listed
found o = option_map_or (λ l. l ∷ []) o []

-- one place more
pub one_more_snapped : (parts : List (List Listed)) (until : List ℕ) (places : List ℕ) (n : ℕ) → n < length places
    → snapped parts until (take n places) ++ found (option_map (lasting (slice_index until (get_or places n 0))) (undated_at parts (get_or places n 0))) ≡ snapped parts until (take (n + 1) places)
one_more_snapped parts until places n low = sym (ap (snapped parts until) (take_more places n 0 low) ∙ pushed (take n places) (get_or places n 0))
  where
    alone : (d : ℕ) (o : Option Listed) → option_map_or (λ l. lasting d l ∷ []) o [] ≡ found (option_map (lasting d) o)
    alone d None = refl
    alone d (Some l) = refl

    behind : (d : ℕ) (o : Option Listed) (ls ms : List Listed) → option_map_or (λ l. lasting d l ∷ (ls ++ ms)) o (ls ++ ms) ≡ option_map_or (λ l. lasting d l ∷ ls) o ls ++ ms
    behind d None ls ms = refl
    behind d (Some l) ls ms = refl

    pushed : (ps : List ℕ) (p : ℕ) → snapped parts until (ps ++ p ∷ []) ≡ snapped parts until ps ++ found (option_map (lasting (slice_index until p)) (undated_at parts p))
    pushed [] p = alone (slice_index until p) (undated_at parts p)
    pushed (q ∷ qs) p =
        ap (λ ls. option_map_or (λ l. lasting (slice_index until q) l ∷ ls) (undated_at parts q) ls) (pushed qs p)
        ∙ behind (slice_index until q) (undated_at parts q) (snapped parts until qs) (found (option_map (lasting (slice_index until p)) (undated_at parts p)))

-- ---- a row that is found by its key

pub some_of : {A B : Type 0} (f : A → B) (o : Option A) (x : B) → option_map f o ≡ Some x → is_some o ≡ true
some_of f None x h = absurd (nothing h)
  where
    nothing : None ≡ Some x → ⊥
    nothing e = cc
some_of f (Some y) x h = refl

pub place_of : {A B : Type 0} (o : Option (ℕ × A × B)) (x : ℕ × A × B) (r : Option ℕ) → option_map (λ p. p.0) o ≡ r → o ≡ Some x → r ≡ Some x.0
place_of o x r h is = sym h ∙ ap (option_map (λ p. p.0)) is

-- the key of a row is among the table's
pub row_there : (es : Entries) (rows : List (Bor Key × Bor Listed)) (i : ℕ) (r : Bor Key × Bor Listed) → map deref_pair rows ≡ rows_of None (held es) → i < length rows → r ≡ get_or rows i r
    → lookup (key_eq r.0.now) es ≡ Some r.1.now
row_there es rows i r is low at =
    let there = slice_get-map deref_pair rows i ∙ ap (option_map deref_pair) (slice_get-get_or rows i r low ∙ ap (λ (x : Bor Key × Bor Listed). Some x) (sym at)) in
    row_held (is_of None) es i (deref_pair r) (ap (λ (l : Entries). slice_get l i) (sym is) ∙ there)

-- one place more, with its key and its instance
pub one_more_key : (es : Entries) (places : List ℕ) (rows : List (Bor Key × Bor Listed)) (i place : ℕ) (r : Bor Key × Bor Listed) → i < length rows → r ≡ get_or rows i r → slice_get (keys_of es) place ≡ Some r.0.now
    → at_places (keys_of es) places ≡ map Some (map (λ x. x.0.now) (take i rows)) → at_places (keys_of es) (places ++ place ∷ []) ≡ map Some (map (λ x. x.0.now) (take (i + 1) rows))
one_more_key es places rows i place r low at here h =
    map-append (λ p. slice_get (keys_of es) p) places (place ∷ []) ∙ (λ j. h j ++ here j ∷ []) ∙ sym (map-append Some (map (λ (x : Bor Key × Bor Listed). x.0.now) (take i rows)) (r.0.now ∷ []))
    ∙ ap (λ (x : Bor Key × Bor Listed). map Some (map (λ (y : Bor Key × Bor Listed). y.0.now) (take i rows) ++ x.0.now ∷ [])) at
    ∙ ap (map (λ (k : Key). Some k)) (sym (map_more (λ (x : Bor Key × Bor Listed). x.0.now) rows i r low))

pub all_in_order : (es : Entries) (places : List ℕ) (rows : List (Bor Key × Bor Listed)) → map deref_pair rows ≡ rows_of None (held es) → at_places (keys_of es) places ≡ map Some (map (λ x. x.0.now) rows) → IsInOrder es places
all_in_order es places rows is h =
    h ∙ ap (map (λ (k : Key). Some k)) (keys_shown rows ∙ ap keys_of is ∙ ap (λ (l : Entries). keys_of l) (filter_true (entries (held es))))
