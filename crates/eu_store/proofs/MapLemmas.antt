-- What the table's clauses say of the finite map that its entries make.
use Rattle.std.proofs.Common.{◌≡◌, ℕ, IfSome, Result, Ok, Err, OnOk, subst, ◌+◌, true≢false, Bool, true, false, List, [], ◌∷◌, length, refl, ap, sym, ◌∙◌, Option, None, Some, is_some, arith}
use Rattle.std.specs.Map.{keys_of}
use Rattle.std.specs.List.{IsDistinct}
use Rattle.std.specs.Ordering.{eq_by_cmp}
use Rattle.std.specs.Cmp.{eq_by_cmp_equiv}
use Rattle.std.proofs.Common.{IsPermutation, IsSorted}
use Rattle.eu_base.specs.declared.names.Key.{Key}
use Rattle.eu_model.specs.declared.views.Listed.{Listed}
use Rattle.eu_model.specs.PlainSteps.{plain_expired}
use Rattle.eu_store.specs.Stored.{expired_keys}
use Rattle.eu_store.proofs.SortedLemmas.{gathered, gathered_many}
use Rattle.eu_store.proofs.FoundLemmas.{entry_there, found_apart, found_alike, key_there}
use Rattle.eu_store.proofs.IndexLemmas.{length-deadlines}
use Rattle.eu_deadlines.specs.Indexed.{AreBefore}
use Rattle.std.proofs.Common.{◌-◌, ◌<◌, get_or, slice_get}
use Rattle.std.proofs.lemmas.Map.Keys.{IsDistinct-IsPermutation}
use Rattle.std.proofs.lemmas.List.Sorted.{list_any-IsPermutation}
use borrow.Author.Tests.{ltb-true}
use Rattle.std.proofs.Common.{zero, suc}
use Rattle.std.proofs.lemmas.Bool.{lt-ltb}
use Rattle.eu_store.specs.Stored.{deadline_of, deadlines}
use Rattle.eu_store.proofs.TableLemmas.{map_of}
use Rattle.eu_base.specs.Values.{key_cmp, key_eq}
use Rattle.eu_base.proofs.KeyLemmas.{keys_total, keys_exact, key_eq-tie}

pub at_ok : {X E : Type 0} {r : Result X E} {x : X} (P : Type 0) → OnOk r P → r ≡ Ok x → P
at_ok P h e = subst (λ s. OnOk s P) e h

pub ok_is_no_err : {X E : Type 0} {x : X} {e : E} → ◌≡◌ {A = Result X E} (Ok x) (Err e) → ⊥
ok_is_no_err h = cc

pub none_from_is_some : {X : Type 0} (o : Option X) → is_some o ≡ false → o ≡ None
none_from_is_some None e = refl
none_from_is_some (Some x) e = absurd (true≢false e)

pub at_some : {X : Type 0} {o : Option X} {x : X} (P : X → Type 0) → IfSome o P → o ≡ Some x → P x
at_some P h e = subst (λ s. IfSome s P) e h

length-keys : (es : List (Key × Listed)) → length (keys_of es) ≡ length es
length-keys [] = refl
length-keys (e ∷ es) = omega (arith, length-keys es)

deadline_there : (es : List (Key × Listed)) (p : ℕ) (k : Key) (v : Listed) → slice_get es p ≡ Some (k, v) → get_or (deadlines es) p 0 ≡ deadline_of v
deadline_there [] p k v h = absurd (nothing h)
  where
    nothing : ◌≡◌ {A = Option (Key × Listed)} None (Some (k, v)) → ⊥
    nothing e = cc
deadline_there (e ∷ es) zero k v h = ap deadline_of (second h)
  where
    second : ◌≡◌ {A = Option (Key × Listed)} (Some e) (Some (k, v)) → e.1 ≡ v
    second h = cc
deadline_there (e ∷ es) (suc p) k v h = deadline_there es p k v h

-- the key without a letter: what a list has beyond its end
abbrev pub nobody : Key
nobody = record { app = []; id = [] }

-- the keys at these places
abbrev pub keys_at : List (Key × Listed) → List ℕ → List Key
keys_at es [] = []
keys_at es (p ∷ ps) = get_or (keys_of es) p nobody ∷ keys_at es ps

length-keys_at : (es : List (Key × Listed)) (ps : List ℕ) → length (keys_at es ps) ≡ length ps
length-keys_at es [] = refl
length-keys_at es (p ∷ ps) = omega (arith, length-keys_at es ps)

key_at : (es : List (Key × Listed)) (ps : List ℕ) (j : ℕ) → j < length ps → get_or (keys_at es ps) j nobody ≡ get_or (keys_of es) (get_or ps j 0) nobody
key_at es [] j h = absurd (omega arith)
key_at es (p ∷ ps) zero h = refl
key_at es (p ∷ ps) (suc j) h = key_at es ps j (omega arith)

-- what has expired is at these places, each once
module _ (moment extra : ℕ) (es : List (Key × Listed)) (found : List ℕ) (apart : IsDistinct key_eq (keys_of es)) (before : AreBefore (deadlines es) (moment - extra) found) where
  abbrev late : Listed → Bool
  late l = plain_expired l moment extra

  tied : IsDistinct (eq_by_cmp key_cmp) (keys_of es)
  tied = subst (λ (e : Key → Key → Bool). IsDistinct e (keys_of es)) key_eq-tie apart

  sound : (j : ℕ) (k : Key) (v : Listed) → j < length found → slice_get es (get_or found j 0) ≡ Some (k, v) → late v ≡ true
  sound j k v h at = lt-ltb (deadline_of v + extra) moment (omega (arith, deadline_there es (get_or found j 0) k v at, (before.sound j h).1))

  complete : (p : ℕ) (k : Key) (v : Listed) → slice_get es p ≡ Some (k, v) → late v ≡ true → (j : ℕ) × (j < length found) × (get_or found j 0 ≡ p)
  complete p k v at due =
      let d = deadline_there es p k v at in
      before.complete p (omega (arith, (key_there es p k v nobody at).0, length-deadlines es, length-keys es)) (omega (arith, d, ltb-true (deadline_of v + extra) moment due))

  -- the keys there, sorted, are those of the map
  pub sorted_expired : (ks sorted : List Key) → length ks ≡ length found
      → ((j : ℕ) → j < length found → (v : Listed) × (slice_get es (get_or found j 0) ≡ Some (get_or ks j nobody, v)))
      → IsPermutation ks sorted → IsSorted key_cmp sorted → sorted ≡ expired_keys (map_of es) moment extra
  sorted_expired ks sorted long told moved up =
      gathered late keys_total keys_exact nobody es sorted tied
      (IsDistinct-IsPermutation (eq_by_cmp key_cmp) ((eq_by_cmp_equiv keys_total).symm) ks sorted moved
      (found_apart keys_total late es found ks nobody tied long told sound before.once complete))
      (λ q. sym (list_any-IsPermutation (eq_by_cmp key_cmp q) ks sorted moved) ∙ found_alike keys_total late es found ks nobody tied long told sound before.once complete q) up

  told_there : (j : ℕ) → j < length found → (v : Listed) × (slice_get es (get_or found j 0) ≡ Some (get_or (keys_at es found) j nobody, v))
  told_there j h =
      let p = get_or found j 0 in
      let e = entry_there es p (omega (arith, (before.sound j h).0, length-deadlines es)) in
      let k = (key_there es p e.0.0 e.0.1 nobody e.1).1 in
      (e.0.1, e.1 ∙ ap (λ (x : Key). Some (x, e.0.1)) (sym (key_at es found j h ∙ k)))

  -- as many have expired as there are places
  pub expired_many : length found ≡ length (expired_keys (map_of es) moment extra)
  expired_many =
      let ks = keys_at es found in
      let long = length-keys_at es found in
      sym long
      ∙ gathered_many late keys_total es ks tied (found_apart keys_total late es found ks nobody tied long told_there sound before.once complete)
      (found_alike keys_total late es found ks nobody tied long told_there sound before.once complete)
