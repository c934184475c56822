-- The order of keys is total and tells keys apart, and equality is a tie
use Rattle.std.proofs.Common.{◌≡◌, ℕ, true, List, ◌&&◌, refl, ap, sym, ◌∙◌}
use Rattle.std.specs.declared.cmp.Ordering.{Ordering}
use Rattle.std.specs.declared.cmp.Ordering.TheVariants.{Less, Equal, Greater}
use Rattle.std.specs.Bool.{Decides}
use Rattle.std.specs.Ordering.{ordering_then, eq_by_cmp, is_eq}
use Rattle.std.specs.Cmp.{IsTotalOrder, eq_by_cmp_equiv}
use Rattle.std.specs.FinMap.{IsAntisymmetric}
use Rattle.std.specs.Cmp.Lexicographic.{texts_ties}
use Rattle.std.proofs.lemmas.Bool.{and_parts, and_from}
use Rattle.std.proofs.lemmas.Cmp.{on_total, then_total, nat_list_cmp_total}
use Rattle.std.proofs.lemmas.Slice.Eq.{bytes_eq-Decides}
use Rattle.std.proofs.lemmas.Map.Lookups.{exact_bytes, exact_pairs}
use Rattle.eu_base.specs.declared.names.Key.{Key}
use Rattle.eu_base.specs.Values.{name_cmp, key_cmp, name_eq, key_eq}

pub names_total : IsTotalOrder name_cmp
names_total = nat_list_cmp_total

pub names_exact : IsAntisymmetric name_cmp
names_exact = exact_bytes

pub keys_total : IsTotalOrder key_cmp
keys_total = then_total (on_total (λ k. k.app) nat_list_cmp_total) (on_total (λ k. k.id) nat_list_cmp_total)

pub keys_exact : IsAntisymmetric key_cmp
keys_exact a b h = ap (λ (p : List ℕ × List ℕ). record { app = p.0; id = p.1 }) (exact_pairs name_cmp name_cmp exact_bytes exact_bytes (a.app, a.id) (b.app, b.id) h)

pub name_eq-ties : (a b : List ℕ) → name_eq a b ≡ eq_by_cmp name_cmp a b
name_eq-ties = texts_ties

pub is_eq-then : (r s : Ordering) → is_eq (ordering_then r s) ≡ (is_eq r && is_eq s)
is_eq-then Less s = refl
is_eq-then Equal s = refl
is_eq-then Greater s = refl

pub equal_of_test : (r : Ordering) → is_eq r ≡ true → r ≡ Equal
equal_of_test Less h = cc
equal_of_test Equal h = refl
equal_of_test Greater h = cc

pub key_eq-ties : (a b : Key) → key_eq a b ≡ eq_by_cmp key_cmp a b
key_eq-ties a b = (λ i. texts_ties a.app b.app i && texts_ties a.id b.id i) ∙ sym (is_eq-then (name_cmp a.app b.app) (name_cmp a.id b.id))

-- as one equation of the two tests
pub key_eq-tie : key_eq ≡ eq_by_cmp key_cmp
key_eq-tie i a b = key_eq-ties a b i

pub key_eq-flips : (a b : Key) → key_eq a b ≡ key_eq b a
key_eq-flips a b = key_eq-ties a b ∙ (eq_by_cmp_equiv keys_total).symm a b ∙ sym (key_eq-ties b a)

-- keys that test equal are equal
pub key_eq-Decides : (a b : Key) → Decides (key_eq a b) (a ≡ b)
key_eq-Decides a b = (
  (λ e.
      let p = and_parts (name_eq a.app b.app) (name_eq a.id b.id) e in
      let app = (bytes_eq-Decides a.app b.app).0 p.0 in
      let id = (bytes_eq-Decides a.id b.id).0 p.1 in
      λ i. record { app = app i; id = id i }),
  (λ e. and_from (name_eq a.app b.app) (name_eq a.id b.id)
      ((bytes_eq-Decides a.app b.app).1 (ap (λ k. k.app) e))
      ((bytes_eq-Decides a.id b.id).1 (ap (λ k. k.id) e))),
)
