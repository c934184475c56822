-- A map is made once more of the entries of a table, the last first
use Rattle.std.proofs.Common.{◌≡◌, ℕ, zero, suc, ◌-◌, ◌<◌, Bool, List, [], ◌∷◌, drop, slice_get, ap, sym, subst, ◌∙◌, Option, None, Some, arith}
use Rattle.std.specs.FinMap.{FinMap, from_entries, get, insert}
use Rattle.std.specs.List.{IsDistinct}
use Rattle.std.specs.Map.{keys_of}
use Rattle.std.specs.declared.cmp.Ordering.{Ordering}
use Rattle.std.proofs.lemmas.Map.Keys.{IsDistinct-head, IsDistinct-tail}
use Rattle.eu_store.proofs.TableLemmas.{IsKeyed, absent, get_at}

module _ {K X : Type 0} where
  -- the rest of a list, from an entry on
  drop_at : (es : List (K × X)) (n : ℕ) (e : K × X) → Some e ≡ slice_get es n → drop n es ≡ e ∷ drop (suc n) es
  drop_at [] n e h = absurd (nothing h)
    where
      nothing : ◌≡◌ {A = Option (K × X)} (Some e) None → ⊥
      nothing h = cc
  drop_at (d ∷ es) zero e h = ap (λ y. y ∷ es) (first h)
    where
      first : ◌≡◌ {A = Option (K × X)} (Some e) (Some d) → d ≡ e
      first h = cc
  drop_at (d ∷ es) (suc n) e h = drop_at es n e h

  IsDistinct-drop : (eq : K → K → Bool) (n : ℕ) (es : List (K × X)) → IsDistinct eq (keys_of es) → IsDistinct eq (keys_of (drop n es))
  IsDistinct-drop eq zero es d = d
  IsDistinct-drop eq (suc n) [] d = d
  IsDistinct-drop eq (suc n) (e ∷ es) d = IsDistinct-drop eq n es (IsDistinct-tail eq e.0 (keys_of es) d)

  -- the entry before those that are made already
  before : (es : List (K × X)) (left : ℕ) (e : K × X) → 0 < left → Some e ≡ slice_get es (left - 1) → drop (left - 1) es ≡ e ∷ drop left es
  before es left e some at =
      let n : suc (left - 1) ≡ left = omega arith in
      drop_at es (left - 1) e at ∙ ap (λ i. e ∷ drop i es) n

module _ {K X : Type 0} {R : K → K → Ordering} where
  -- one entry more is put
  pub copy_more : (m now : FinMap R X) (es : List (K × X)) (left : ℕ) (k : K) (x : X) → 0 < left → Some (k, x) ≡ slice_get es (left - 1) → now ≡ insert m k x → m ≡ from_entries (drop left es)
      → now ≡ from_entries (drop (left - 1) es)
  copy_more m now es left k x some at put h = put ∙ ap (λ n. insert n k x) h ∙ sym (ap from_entries (before es left (k, x) some at))

  -- its key isn't among those that were put
  pub copy_new : {eq : K → K → Bool} → IsKeyed R eq → (m : FinMap R X) (es : List (K × X)) (left : ℕ) (k : K) (x : X) → IsDistinct eq (keys_of es) → 0 < left → Some (k, x) ≡ slice_get es (left - 1)
      → m ≡ from_entries (drop left es) → get m k ≡ None
  copy_new {eq = eq} w m es left k x once some at h =
      let apart = subst (λ l. IsDistinct eq (keys_of l)) (before es left (k, x) some at) (IsDistinct-drop eq (left - 1) es once) in
      ap (λ n. get n k) h ∙ get_at w (drop left es) k ∙ absent w k (drop left es) (IsDistinct-head eq k (keys_of (drop left es)) apart)
