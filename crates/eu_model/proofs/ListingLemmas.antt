-- What is listed depends on the plain form alone
use Rattle.std.proofs.Common.{◌≡◌, ℕ, Bool, true, false, List, [], ◌∷◌, map, filter, refl, sym, ap, ◌∙◌}
use Rattle.std.specs.Prelude.{cond, Option}
use Rattle.std.specs.FinMap.{entries}
use Rattle.eu_base.specs.declared.names.Key.{Key}
use Rattle.eu_base.specs.Values.{key_cmp}
use Rattle.eu_model.specs.declared.views.Listed.{Listed}
use Rattle.eu_model.specs.Machine.{Record, Machine}
use Rattle.eu_model.specs.Plain.{Plain, plain, listed}
use Rattle.eu_model.specs.View.{is_of, listing}
use Rattle.eu_model.specs.Answers.{Shows}
use Rattle.eu_model.specs.PlainSteps.{plain_listing}
use Rattle.eu_model.proofs.MapLemmas.{entries-map_values}

-- a test that all pass takes nothing away
pub filter_true : {X : Type 0} (xs : List X) → filter (λ x. true) xs ≡ xs
filter_true [] = refl
filter_true (x ∷ xs) = ap (λ l. x ∷ l) (filter_true xs)

-- what passes a test on its key, as it is kept
passing-kept : (p : Key → Bool) (es : List (Key × Record)) →
    map (λ e. listed e.1) (filter (λ e. p e.0) es) ≡ map (λ (e : Key × Listed). e.1) (filter (λ (e : Key × Listed). p e.0) (map (λ e. (e.0, listed e.1)) es))
passing-kept p [] = refl
passing-kept p (e ∷ es) =
    let rest = filter (λ (f : Key × Record). p f.0) es in
    let kept = filter (λ (f : Key × Listed). p f.0) (map (λ (f : Key × Record). (f.0, listed f.1)) es) in
    elim (p e.0) as (λ b. map (λ (f : Key × Record). listed f.1) (cond b (e ∷ rest) rest) ≡ map (λ (f : Key × Listed). f.1) (cond b ((e.0, listed e.1) ∷ kept) kept)) [
      | true ↦ ap (λ l. listed e.1 ∷ l) (passing-kept p es)
      | false ↦ passing-kept p es
    ]

pub listing-kept : (app : Option (List ℕ)) (s : Machine) → listing app s ≡ plain_listing app (plain s)
listing-kept app s =
    passing-kept (is_of app) (entries s.leases)
    ∙ ap (λ (es : List (Key × Listed)). map (λ (e : Key × Listed). e.1) (filter (λ (e : Key × Listed). is_of app e.0) es)) (sym (entries-map_values key_cmp listed s.leases))

pub listing_shown : (app : Option (List ℕ)) (p : Plain) → Shows p (listing app) (plain_listing app p)
listing_shown app p s e = ap (plain_listing app) (sym e) ∙ sym (listing-kept app s)
