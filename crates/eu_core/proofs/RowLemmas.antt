-- What is written is what a change leaves
use Rattle.std.proofs.Common.{◌≡◌, ℕ, List, true, true≢false, refl, sym, ap, ◌∙◌}
use Rattle.std.specs.Prelude.{Option, Some, None}
use Rattle.std.specs.Option.{option_eq, option_map}
use Rattle.std.specs.FinMap.{FinMap, get}
use Rattle.eu_base.specs.contracts.statuses.StatusPartialEq.TheImpl.{eq-value}
use Rattle.eu_base.specs.declared.statuses.Status.{Status}
use Rattle.eu_base.specs.declared.statuses.Status.TheVariants.{Up, Down, Starting, OutOfService, Unknown}
use Rattle.eu_base.specs.declared.names.Key.{Key}
use Rattle.eu_base.specs.Values.{name_cmp, key_cmp}
use Rattle.eu_model.specs.declared.views.Listed.{Listed}
use Rattle.eu_model.specs.Machine.{with_value}
use Rattle.eu_store.specs.Stored.{changed}
use Rattle.eu_store.proofs.TableLemmas.{by_key, by_name, changed-absent, changed-found, insert_same, remove_absent}

pub with_row-same : (overrides : FinMap name_cmp Status) (id : List ℕ) (row : Option Status) → get overrides id ≡ row → with_value overrides id row ≡ overrides
with_row-same overrides id None e = remove_absent by_name overrides id e
with_row-same overrides id (Some r) e = insert_same by_name overrides id r e

pub with_lease-same : (leases : FinMap key_cmp Listed) (k : Key) (l : Option Listed) → get leases k ≡ l → with_value leases k l ≡ leases
with_lease-same leases k None e = remove_absent by_key leases k e
with_lease-same leases k (Some l) e = insert_same by_key leases k l e

-- what is changed at a key, by what is held there
pub changed_value : (f : Listed → Listed) (m : FinMap key_cmp Listed) (k : Key) → changed f m k ≡ with_value m k (option_map f (get m k))
changed_value f m k = by (get m k) refl
  where
    by : (o : Option Listed) → get m k ≡ o → changed f m k ≡ with_value m k (option_map f (get m k))
    by None e = changed-absent by_key f m k e ∙ sym (ap (λ o. with_value m k (option_map f o)) e ∙ with_lease-same m k None e)
    by (Some l) e = changed-found by_key f m k l e ∙ sym (ap (λ o. with_value m k (option_map f o)) e)

-- rows that are equal by their test are equal
same_value : (a b : Status) → eq-value.it a b ≡ true → a ≡ b
same_value Up Up e = refl
same_value Down Down e = refl
same_value Starting Starting e = refl
same_value OutOfService OutOfService e = refl
same_value Unknown Unknown e = refl
same_value Up _ e = absurd (true≢false (sym e))
same_value Down _ e = absurd (true≢false (sym e))
same_value Starting _ e = absurd (true≢false (sym e))
same_value OutOfService _ e = absurd (true≢false (sym e))
same_value Unknown _ e = absurd (true≢false (sym e))

pub same_row : (a b : Option Status) → true ≡ option_eq eq-value.it a b → a ≡ b
same_row None None e = refl
same_row (Some a) (Some b) e = ap Some (same_value a b (sym e))
same_row None (Some b) e = absurd (true≢false e)
same_row (Some a) None e = absurd (true≢false e)
