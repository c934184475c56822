-- Many leases go at once: what is left of the table's entries, and of the places in key order
use Rattle.std.proofs.Common.{◌≡◌, ℕ, zero, suc, ◌+◌, ◌==◌, ◌<◌, ◌≤◌, Bool, true, false, cond, ◌||◌, ◌&&◌, List, [], ◌∷◌, ◌++◌, map, filter, length, get_or, set, take, drop, slice_get, refl, sym, ap, subst, ◌∙◌, Option, None, Some, is_some, arith, true≢false, Less}
use Rattle.std.specs.Prelude.{MatchOption, ⊤}
use Rattle.std.specs.Option.{option_map, option_map_or}
use Rattle.std.specs.declared.alloc.Global.{Global}
use Rattle.std.specs.declared.vec.Vec.{Vec}
use Rattle.std.specs.Ordering.{is_eq, eq_by_cmp}
use Rattle.std.specs.Map.{keys_of}
use Rattle.std.specs.List.{swap_remove, list_any, IsDistinct, AllByRecursion}
use Rattle.std.specs.List.Sorted.{IsStrictlySortedBy}
use Rattle.std.specs.FinMap.{get, entries, entries_sorted, get-from_entries, contains_key-keys}
use Rattle.std.specs.FinMap.Entries.{find}
use Rattle.std.proofs.lemmas.Bool.{eqb-true}
use Rattle.std.proofs.lemmas.Cmp.{tied_itself}
use Rattle.std.proofs.lemmas.Map.Entries.{lookup_from_place}
use Rattle.std.proofs.lemmas.Option.{slice_get-map, slice_get-get_or, slice_get_within, get_or_from_slice_get}
use Rattle.std.proofs.lemmas.List.{drop_more, length-map, length-take-le, take_more, take_more_set}
use Rattle.eu_base.specs.declared.names.Key.{Key}
use Rattle.eu_base.specs.Values.{key_cmp, key_eq}
use Rattle.eu_base.proofs.KeyLemmas.{equal_of_test, keys_total, keys_exact}
use Rattle.eu_model.specs.declared.views.Listed.{Listed}
use Rattle.eu_store.specs.declared.directory.Directory.{Directory}
use Rattle.eu_store.specs.Order.{at_places, keys_held, AreOrdered, IsInOrder}
use Rattle.eu_store.specs.Sweep.{is_from, place_now, places_in, AreBelow, AreCounted, AreNoted, ArePartsOf, ArePlacesOf}
use Rattle.eu_store.proofs.FoundLemmas.{any_place, entry_there}
use Rattle.eu_store.proofs.IndexLemmas.{key_equiv}
use Rattle.eu_store.proofs.OrderLemmas.{held, one_place, Entries}
use Rattle.eu_store.proofs.PlaceLemmas.{at_from, at_length, get_take, map_swapped, place_within, same_some}
use Rattle.eu_store.proofs.SortedLemmas.{same_keys, sorted_keys}
use Rattle.eu_store.proofs.TableLemmas.{by_key, get_at}

-- what stands at a place is held
pub held_at : (es : Entries) (p : ℕ) (e : Key × Listed) → IsDistinct key_eq (keys_of es) → slice_get es p ≡ Some e → get (held es) e.0 ≡ Some e.1
held_at es p e apart at = get_at by_key es e.0 ∙ lookup_from_place key_equiv es p e.0 e.1 apart at

-- ---- where what is left stood before

module _ {A : Type 0} where
  nothing : (x : A) → ◌≡◌ {A = Option A} None (Some x) → ⊥
  nothing x h = cc

  pub at_swapped : (xs : List A) (ps : List ℕ) (gs : List A) (p d : ℕ) (e : A) → 0 < length gs → at_places xs ps ≡ map (λ (x : A). Some x) gs → at_places xs (swap_remove ps p d) ≡ map (λ (x : A). Some x) (swap_remove gs p e)
  at_swapped xs ps gs p d e some h =
      let long = at_length xs ps gs h in
      map_swapped (λ q. slice_get xs q) ps p d (Some e) (omega (arith, some, long)) ∙ ap (λ l. swap_remove l p (Some e)) h ∙ sym (map_swapped (λ (x : A). Some x) gs p e (Some e) some)

  -- what stood at a place, where its place is told
  at_origin : (xs : List A) (ps : List ℕ) (gs : List A) (i p : ℕ) → at_places xs ps ≡ map (λ (x : A). Some x) gs → slice_get ps i ≡ Some p → slice_get gs i ≡ slice_get xs p
  at_origin xs [] gs i p h at = absurd (none at)
    where
      none : ◌≡◌ {A = Option ℕ} None (Some p) → ⊥
      none e = cc
  at_origin xs (q ∷ ps) [] i p h at = absurd (differ h)
    where
      differ : ◌≡◌ {A = List (Option A)} (slice_get xs q ∷ at_places xs ps) [] → ⊥
      differ h = cc
  at_origin xs (q ∷ ps) (g ∷ gs) zero p h at = sym (head h) ∙ ap (slice_get xs) (same_some q p at)
    where
      head : ◌≡◌ {A = List (Option A)} (slice_get xs q ∷ at_places xs ps) (Some g ∷ map Some gs) → slice_get xs q ≡ Some g
      head h = cc
  at_origin xs (q ∷ ps) (g ∷ gs) (suc i) p h at = at_origin xs ps gs i p (tail h) at
    where
      tail : ◌≡◌ {A = List (Option A)} (slice_get xs q ∷ at_places xs ps) (Some g ∷ map Some gs) → at_places xs ps ≡ map Some gs
      tail h = cc

keys_from : (es : Entries) (ps : List ℕ) (fs : Entries) → at_places es ps ≡ map (λ (e : Key × Listed). Some e) fs → at_places (keys_of es) ps ≡ map (λ (k : Key). Some k) (keys_of fs)
keys_from es [] [] h = refl
keys_from es [] (f ∷ fs) h = absurd (differ h)
  where
    differ : ◌≡◌ {A = List (Option (Key × Listed))} [] (Some f ∷ map Some fs) → ⊥
    differ h = cc
keys_from es (p ∷ ps) [] h = absurd (differ h)
  where
    differ : ◌≡◌ {A = List (Option (Key × Listed))} (slice_get es p ∷ at_places es ps) [] → ⊥
    differ h = cc
keys_from es (p ∷ ps) (f ∷ fs) h = λ j. (slice_get-map (λ e. e.0) es p ∙ ap (option_map (λ (e : Key × Listed). e.0)) (head h)) j ∷ keys_from es ps fs (tail h) j
  where
    head : ◌≡◌ {A = List (Option (Key × Listed))} (slice_get es p ∷ at_places es ps) (Some f ∷ map Some fs) → slice_get es p ≡ Some f
    head h = cc

    tail : ◌≡◌ {A = List (Option (Key × Listed))} (slice_get es p ∷ at_places es ps) (Some f ∷ map Some fs) → at_places es ps ≡ map Some fs
    tail h = cc

-- ---- the keys of what is left

-- whether a key is among keys
abbrev among : List Key → Key → Bool
among hs k = list_any (eq_by_cmp key_cmp k) hs

found_among : (es : Entries) (q : Key) → is_some (find key_cmp q es) ≡ among (keys_of es) q
found_among [] q = refl
found_among (e ∷ es) q = by (eq_by_cmp key_cmp q e.0) (found_among es q)
  where
    by : (b : Bool) → is_some (find key_cmp q es) ≡ among (keys_of es) q → is_some (cond b (Some e.1) (find key_cmp q es)) ≡ (b || among (keys_of es) q)
    by true h = refl
    by false h = h

held_among : (es : Entries) (q : Key) → among (keys_held es) q ≡ among (keys_of es) q
held_among es q = sym (contains_key-keys (held es) q) ∙ ap is_some (get-from_entries keys_total es q) ∙ found_among es q

All-filter : (t : Key → Bool) (P : Key → Type 0) (gs : List Key) → AllByRecursion P gs → AllByRecursion P (filter t gs)
All-filter t P [] h = tt
All-filter t P (g ∷ gs) h = by (t g) (All-filter t P gs h.1)
  where
    by : (b : Bool) → AllByRecursion P (filter t gs) → AllByRecursion P (cond b (g ∷ filter t gs) (filter t gs))
    by true r = (h.0, r)
    by false r = r

rising_filter : (t : Key → Bool) (gs : List Key) → IsStrictlySortedBy key_cmp gs → IsStrictlySortedBy key_cmp (filter t gs)
unfolding IsStrictlySortedBy
rising_filter t [] h = h
rising_filter t (g ∷ gs) h = by (t g) (rising_filter t gs h.1)
  where
    by : (b : Bool) → IsStrictlySortedBy key_cmp (filter t gs) → IsStrictlySortedBy key_cmp (cond b (g ∷ filter t gs) (filter t gs))
    by true r = (All-filter t (λ y. key_cmp g y ≡ Less) gs h.0, r)
    by false r = r

same_key : (q g : Key) → eq_by_cmp key_cmp q g ≡ true → q ≡ g
same_key q g h = keys_exact q g (equal_of_test (key_cmp q g) h)

-- a key is among those that pass a test where it is among them all and passes
among_filter : (t : Key → Bool) (q : Key) (gs : List Key) → among (filter t gs) q ≡ (among gs q && t q)
among_filter t q [] = refl
among_filter t q (g ∷ gs) = by (eq_by_cmp key_cmp q g) (t g) refl refl (among_filter t q gs)
  where
    and_false : (b : Bool) → (b && false) ≡ false
    and_false true = refl
    and_false false = refl

    at : (b c : Bool) → eq_by_cmp key_cmp q g ≡ b → t g ≡ c → cond c (b || among (filter t gs) q) (among (filter t gs) q) ≡ ((b || among gs q) && t q) → among (filter t (g ∷ gs)) q ≡ (among (g ∷ gs) q && t q)
    at b c is_b is_c h = ap (λ v. among (cond v (g ∷ filter t gs) (filter t gs)) q) is_c ∙ each c ∙ ap (λ v. cond c (v || among (filter t gs) q) (among (filter t gs) q)) is_b ∙ h ∙ sym (ap (λ v. (v || among gs q) && t q) is_b)
      where
        each : (v : Bool) → among (cond v (g ∷ filter t gs) (filter t gs)) q ≡ cond v (eq_by_cmp key_cmp q g || among (filter t gs) q) (among (filter t gs) q)
        each true = refl
        each false = refl

    by : (b c : Bool) → eq_by_cmp key_cmp q g ≡ b → t g ≡ c → among (filter t gs) q ≡ (among gs q && t q) → among (filter t (g ∷ gs)) q ≡ (among (g ∷ gs) q && t q)
    by true true is_b is_c rest = at true true is_b is_c (sym (ap t (same_key q g is_b) ∙ is_c))
    by true false is_b is_c rest =
        let fails : t q ≡ false = ap t (same_key q g is_b) ∙ is_c in
        at true false is_b is_c (rest ∙ ap (λ v. among gs q && v) fails ∙ and_false (among gs q) ∙ sym fails)
    by false true is_b is_c rest = at false true is_b is_c rest
    by false false is_b is_c rest = at false false is_b is_c rest

-- ---- the places that are left

-- what becomes of numbers, where some get another and the rest go
abbrev pub renumbered : (ℕ → Option ℕ) → List ℕ → List ℕ
renumbered f [] = []
renumbered f (p ∷ ps) = option_map_or (λ i. i ∷ renumbered f ps) (f p) (renumbered f ps)

module _ (es fs : Entries) (origins : List ℕ) (f : ℕ → Option ℕ) (apart : IsDistinct key_eq (keys_of es)) (from : at_places es origins ≡ map (λ (e : Key × Listed). Some e) fs)
    (sound : (p i : ℕ) → f p ≡ Some i → slice_get origins i ≡ Some p) (complete : (p i : ℕ) → slice_get origins i ≡ Some p → is_some (f p) ≡ true) where
  abbrev ks : List Key
  ks = keys_of es

  abbrev hs : List Key
  hs = keys_of fs

  keys : at_places ks origins ≡ map (λ (k : Key). Some k) hs
  keys = keys_from es origins fs from

  -- a key that is left stood at a place of before
  stood : (q : Key) → among hs q ≡ true → (i p : ℕ) × (slice_get origins i ≡ Some p) × (slice_get ks p ≡ Some q)
  stood q some =
      let a = any_place (eq_by_cmp key_cmp q) q hs some in
      let o = entry_there origins a.0 (omega (arith, a.1, at_length ks origins hs keys)) in
      (a.0, o.0, o.1, sym (at_origin ks origins hs a.0 o.0 keys o.1) ∙ slice_get-get_or hs a.0 q a.1 ∙ ap (λ (k : Key). Some k) (sym (same_key q (get_or hs a.0 q) a.2)))

  is_among : (gs : List Key) (p : ℕ) (q : Key) → slice_get gs p ≡ Some q → among gs q ≡ true
  is_among [] p q h = absurd (nothing q h)
  is_among (g ∷ gs) zero q h = ap (λ k. eq_by_cmp key_cmp q k || among gs q) (same_some g q h) ∙ ap (λ b. b || among gs q) (sym_same q)
    where
      sym_same : (k : Key) → eq_by_cmp key_cmp k k ≡ true
      sym_same k = ap is_eq (tied_itself keys_total k)
  is_among (g ∷ gs) (suc p) q h = ap (λ b. eq_by_cmp key_cmp q g || b) (is_among gs p q h) ∙ or_true (eq_by_cmp key_cmp q g)
    where
      or_true : (b : Bool) → (b || true) ≡ true
      or_true true = refl
      or_true false = refl

  -- those places stay whose keys do
  left : (ps : List ℕ) (gs : List Key) → at_places ks ps ≡ map (λ (k : Key). Some k) gs → at_places hs (renumbered f ps) ≡ map (λ (k : Key). Some k) (filter (among hs) gs)
  left [] [] h = refl
  left [] (g ∷ gs) h = absurd (differ h)
    where
      differ : ◌≡◌ {A = List (Option Key)} [] (Some g ∷ map Some gs) → ⊥
      differ h = cc
  left (p ∷ ps) [] h = absurd (differ h)
    where
      differ : ◌≡◌ {A = List (Option Key)} (slice_get ks p ∷ at_places ks ps) [] → ⊥
      differ h = cc
  left (p ∷ ps) (g ∷ gs) h = by (f p) refl (left ps gs (tail h))
    where
      head : ◌≡◌ {A = List (Option Key)} (slice_get ks p ∷ at_places ks ps) (Some g ∷ map Some gs) → slice_get ks p ≡ Some g
      head h = cc

      tail : ◌≡◌ {A = List (Option Key)} (slice_get ks p ∷ at_places ks ps) (Some g ∷ map Some gs) → at_places ks ps ≡ map Some gs
      tail h = cc

      here : (i : ℕ) → f p ≡ Some i → slice_get hs i ≡ Some g
      here i is = at_origin ks origins hs i p keys (sound p i is) ∙ head h

      gone : f p ≡ None → (b : Bool) → among hs g ≡ b → among hs g ≡ false
      gone none false is = is
      gone none true is =
          let s = stood g is in
          let same : s.1 ≡ p = one_place ks s.1 p g apart s.3 (head h) in
          absurd (true≢false (sym (complete p s.0 (s.2 ∙ ap (λ (n : ℕ). Some n) same)) ∙ ap is_some none))

      by : (o : Option ℕ) → f p ≡ o → at_places hs (renumbered f ps) ≡ map (λ (k : Key). Some k) (filter (among hs) gs)
          → at_places hs (option_map_or (λ i. i ∷ renumbered f ps) (f p) (renumbered f ps)) ≡ map (λ (k : Key). Some k) (cond (among hs g) (g ∷ filter (among hs) gs) (filter (among hs) gs))
      by (Some i) is rest =
          ap (λ (o : Option ℕ). at_places hs (option_map_or (λ i. i ∷ renumbered f ps) o (renumbered f ps))) is
          ∙ (λ j. here i is j ∷ rest j)
          ∙ ap (λ b. map (λ (k : Key). Some k) (cond b (g ∷ filter (among hs) gs) (filter (among hs) gs))) (sym (is_among hs i g (here i is)))
      by None is rest =
          ap (λ (o : Option ℕ). at_places hs (option_map_or (λ i. i ∷ renumbered f ps) o (renumbered f ps))) is
          ∙ rest
          ∙ ap (λ b. map (λ (k : Key). Some k) (cond b (g ∷ filter (among hs) gs) (filter (among hs) gs))) (sym (gone is (among hs g) refl))

  -- the keys that are left, in order
  kept_keys : filter (among hs) (keys_held es) ≡ keys_held fs
  kept_keys =
      same_keys keys_total keys_exact (filter (among hs) (keys_held es)) (keys_held fs) (rising_filter (among hs) (keys_held es) (sorted_keys key_cmp (entries (held es)) (entries_sorted (held es))))
      (sorted_keys key_cmp (entries (held fs)) (entries_sorted (held fs)))
      (λ q. among_filter (among hs) q (keys_held es) ∙ by q (among hs q) refl ∙ sym (held_among fs q))
    where
      by : (q : Key) (b : Bool) → among hs q ≡ b → (among (keys_held es) q && among hs q) ≡ among hs q
      by q true is = let s = stood q is in ap (λ v. v && among hs q) (held_among es q ∙ is_among ks s.1 q s.3)
      by q false is = ap (λ v. among (keys_held es) q && v) is ∙ and_false (among (keys_held es) q) ∙ sym is
        where
          and_false : (b : Bool) → (b && false) ≡ false
          and_false true = refl
          and_false false = refl

  pub order_left : (ps : List ℕ) → IsInOrder es ps → IsInOrder fs (renumbered f ps)
  order_left ps order = left ps (keys_held es) order ∙ ap (map (λ (k : Key). Some k)) kept_keys

-- ---- the notes of where a lease stands now

from_place : (origins : List ℕ) (p i : ℕ) → is_from origins p i ≡ true → slice_get origins i ≡ Some p
from_place origins p i h = by (slice_get origins i) h
  where
    by : (o : Option ℕ) → option_map_or (λ q. q == p) o false ≡ true → o ≡ Some p
    by None h = absurd (true≢false (sym h))
    by (Some q) h = ap (λ (n : ℕ). Some n) (eqb-true q p h)

now_sound : (origins moved : List ℕ) (p i : ℕ) → place_now origins moved p ≡ Some i → slice_get origins i ≡ Some p
now_sound origins moved p i h = by (is_from origins p (get_or moved p 0)) refl h
  where
    by : (b : Bool) → is_from origins p (get_or moved p 0) ≡ b → cond b (Some (get_or moved p 0)) None ≡ Some i → slice_get origins i ≡ Some p
    by true is h = ap (slice_get origins) (sym (same_some (get_or moved p 0) i h)) ∙ from_place origins p (get_or moved p 0) is
    by false is h = absurd (nothing i h)

now_complete : (origins moved : List ℕ) → AreNoted origins moved → (p i : ℕ) → slice_get origins i ≡ Some p → is_some (place_now origins moved p) ≡ true
now_complete origins moved noted p i at =
    let is : get_or origins i 0 ≡ p = get_or_from_slice_get origins i p 0 at in
    let test : is_from origins p (get_or moved p 0) ≡ true = sym (ap (λ n. is_from origins n (get_or moved n 0)) is) ∙ noted i (slice_get_within origins i p at) in
    ap (λ b. is_some (cond b (Some (get_or moved p 0)) None)) test

pub order_swept : (es fs : Entries) (ps origins moved : List ℕ) → AreNoted origins moved → IsDistinct key_eq (keys_of es) → at_places es origins ≡ map (λ (e : Key × Listed). Some e) fs → IsInOrder es ps
    → IsInOrder fs (renumbered (place_now origins moved) ps)
order_swept es fs ps origins moved noted apart from = order_left es fs origins (place_now origins moved) apart from (now_sound origins moved) (now_complete origins moved noted) ps

-- ---- a list that is written over itself

module _ {A : Type 0} where
  drop_put : (xs : List A) (m n : ℕ) (y : A) → n < m → drop m (set xs n y) ≡ drop m xs
  drop_put xs zero n y low = absurd (omega (arith, low))
  drop_put [] (suc m) n y low = refl
  drop_put (x ∷ xs) (suc m) zero y low = refl
  drop_put (x ∷ xs) (suc m) (suc n) y low = drop_put xs m n y (omega (arith, low))

  -- lists with the same rest have the same next one
  pub rest_alike : (xs ys : List A) (n : ℕ) (d : A) → n < length xs → n < length ys → drop n xs ≡ drop n ys → (get_or xs n d ≡ get_or ys n d) × (drop (n + 1) xs ≡ drop (n + 1) ys)
  rest_alike xs ys n d low_x low_y h = parts (get_or xs n d) (get_or ys n d) (drop (n + 1) xs) (drop (n + 1) ys) (sym (drop_more xs n d low_x) ∙ h ∙ drop_more ys n d low_y)
    where
      parts : (x y : A) (us vs : List A) → ◌≡◌ {A = List A} (x ∷ us) (y ∷ vs) → (x ≡ y) × (us ≡ vs)
      parts x y us vs h = (cc, cc)

  -- one is written where one was read, or before it
  pub rest_put : (xs ys : List A) (m n : ℕ) (y : A) → n ≤ m → drop (m + 1) xs ≡ drop (m + 1) ys → drop (m + 1) (set xs n y) ≡ drop (m + 1) ys
  rest_put xs ys m n y low h = drop_put xs (m + 1) n y (omega (arith, low)) ∙ h

renumbered_more : (f : ℕ → Option ℕ) (ps : List ℕ) (p : ℕ) → renumbered f (ps ++ p ∷ []) ≡ renumbered f ps ++ option_map_or (λ i. i ∷ []) (f p) []
renumbered_more f [] p = refl
renumbered_more f (q ∷ ps) p = by (f q) (renumbered_more f ps p)
  where
    by : (o : Option ℕ) → renumbered f (ps ++ p ∷ []) ≡ renumbered f ps ++ option_map_or (λ i. i ∷ []) (f p) []
        → option_map_or (λ i. i ∷ renumbered f (ps ++ p ∷ [])) o (renumbered f (ps ++ p ∷ [])) ≡ option_map_or (λ i. i ∷ renumbered f ps) o (renumbered f ps) ++ option_map_or (λ i. i ∷ []) (f p) []
    by (Some i) h = ap (λ l. i ∷ l) h
    by None h = h

-- one place more that stays, or goes
pub one_stays : (f : ℕ → Option ℕ) (xs ps : List ℕ) (kept at p i : ℕ) → kept < length xs → at < length ps → p ≡ get_or ps at 0 → f p ≡ Some i → take kept xs ≡ renumbered f (take at ps)
    → take (kept + 1) (set xs kept i) ≡ renumbered f (take (at + 1) ps)
one_stays f xs ps kept at p i low within is stays h =
    take_more_set xs kept i low ∙ ap (λ l. l ++ i ∷ []) h ∙ ap (λ o. renumbered f (take at ps) ++ option_map_or (λ i. i ∷ []) o []) (sym (ap f (sym is) ∙ stays))
    ∙ sym (ap (renumbered f) (take_more ps at 0 within) ∙ renumbered_more f (take at ps) (get_or ps at 0))

pub one_goes : (f : ℕ → Option ℕ) (xs ps : List ℕ) (kept at p : ℕ) → at < length ps → p ≡ get_or ps at 0 → f p ≡ None → take kept xs ≡ renumbered f (take at ps) → take kept xs ≡ renumbered f (take (at + 1) ps)
one_goes f xs ps kept at p within is goes h =
    h ∙ none (renumbered f (take at ps)) ∙ ap (λ o. renumbered f (take at ps) ++ option_map_or (λ i. i ∷ []) o []) (sym (ap f (sym is) ∙ goes))
    ∙ sym (ap (renumbered f) (take_more ps at 0 within) ∙ renumbered_more f (take at ps) (get_or ps at 0))
  where
    none : (l : List ℕ) → l ≡ l ++ []
    none [] = refl
    none (x ∷ l) = ap (λ m. x ∷ m) (none l)

-- ---- what a sweep begins with

-- the places of a table, counted
pub at_counted : {A : Type 0} (xs : List A) (ps : List ℕ) → length xs ≤ length ps → AreCounted ps → at_places xs (take (length xs) ps) ≡ map (λ (x : A). Some x) xs
at_counted {A = A} xs ps low counted = at_from xs (take m ps) xs (length-take-le m ps low) here
  where
    m : ℕ
    m = length xs

    here : (i d : ℕ) (e : A) → i < m → slice_get xs (get_or (take m ps) i d) ≡ Some (get_or xs i e)
    here i d e under =
        let inside : i < length ps = omega (arith, under, low) in
        let itself = get_take m i ps under ∙ slice_get-get_or ps i 0 inside ∙ ap (λ (n : ℕ). Some n) (counted i inside) in
        ap (slice_get xs) (get_or_from_slice_get (take m ps) i i d itself) ∙ slice_get-get_or xs i e under

-- places at which something stands are below the length
pub at_below : {A : Type 0} (xs : List A) (ps : List ℕ) (gs : List A) (n : ℕ) → at_places xs ps ≡ map (λ (x : A). Some x) gs → length xs ≤ n → AreBelow n ps
at_below xs ps gs n h most i low = omega (arith, place_within xs ps gs i h low, most)

-- ---- a directory whose places are those of another

same_vec : (a b : Vec ℕ Global) → ◌≡◌ {A = Option (Vec ℕ Global)} (Some a) (Some b) → a ≡ b
same_vec a b h = cc

no_vec : (a : Vec ℕ Global) → ◌≡◌ {A = Option (Vec ℕ Global)} (Some a) None → ⊥
no_vec a h = cc

pub places_same : (es : Entries) (now was : Option Directory) → places_in now ≡ places_in was → AreOrdered es was → ArePlacesOf es now
places_same es None was h order = tt
places_same es (Some d) None h order = absurd (no_vec d.places h)
places_same es (Some d) (Some e) h order = subst (λ (v : Vec ℕ Global). IsInOrder es v.items) (sym (same_vec d.places e.places h)) order.0

pub places_below : (es : Entries) (now : Option Directory) (n : ℕ) → ArePlacesOf es now → length es ≤ n → MatchOption now ⊤ (λ d. AreBelow n d.places.items)
places_below es None n order most = tt
places_below es (Some d) n order most = at_below (keys_of es) d.places.items (keys_held es) n order (omega (arith, length-map es (λ e. e.0), most))

pub parts_of : (es : Entries) (was : Option Directory) → AreOrdered es was → ArePartsOf es was
parts_of es None order = tt
parts_of es (Some d) order = order.1
