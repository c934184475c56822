-- What is said of rows: a table with no entry has none at any id, and a value is put where one stands, and nowhere else
use Rattle.std.proofs.Common.{◌≡◌, Bool, List, [], ◌∷◌, None, Some, length, refl, sym, ap, ◌∙◌, arith}
use Rattle.std.specs.Option.{option_map}
use Rattle.std.specs.Map.{lookup}
use Rattle.std.specs.FinMap.{FinMap, get, insert}
use Rattle.std.specs.declared.cmp.Ordering.{Ordering}
use Rattle.eu_model.specs.Machine.{with_value}
use Rattle.eu_store.proofs.TableLemmas.{IsKeyed, remove_absent}

pub nothing_there : {K X : Type 0} (test : K → Bool) (es : List (K × X)) → length es ≡ 0 → lookup test es ≡ None
nothing_there test [] h = refl
nothing_there test (e ∷ es) h = absurd (omega (arith, h))

module _ {K X : Type 0} {R : K → K → Ordering} where
  -- a value is put at a key that has one
  pub set_found : (m : FinMap R X) (k : K) (x v : X) → get m k ≡ Some x → insert m k v ≡ with_value m k (option_map (λ (_ : X). v) (get m k))
  set_found m k x v e = sym (ap (λ o. with_value m k (option_map (λ (_ : X). v) o)) e)

  -- and not at a key that has none
  pub set_absent : {eq : K → K → Bool} → IsKeyed R eq → (m : FinMap R X) (k : K) (v : X) → get m k ≡ None → m ≡ with_value m k (option_map (λ (_ : X). v) (get m k))
  set_absent w m k v e = sym (ap (λ o. with_value m k (option_map (λ (_ : X). v) o)) e ∙ remove_absent w m k e)
