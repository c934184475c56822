-- Each plain form is that of some machine
use Rattle.std.proofs.Common.{◌≡◌, ℕ, zero, suc, ◌+◌, List, [], ◌∷◌, ◌++◌, refl, ap, ◌∙◌, arith}
use Rattle.std.specs.Prelude.{Option, Some, None}
use Rattle.std.specs.Option.{option_map}
use Rattle.std.specs.FinMap.{FinMap, get, same_map}
use Rattle.eu_base.specs.Values.{key_cmp}
use Rattle.eu_base.proofs.KeyLemmas.{keys_total, keys_exact}
use Rattle.eu_model.specs.declared.views.Listed.{Listed}
use Rattle.eu_model.specs.Machine.{Mark, since, last, map_values, Machine}
use Rattle.eu_model.specs.Machine.Mark.{Renewal, Minute}
use Rattle.eu_model.specs.Plain.{Plain, plain, listed}
use Rattle.eu_model.specs.PlainSteps.{raised}
use Rattle.eu_model.proofs.MarkLemmas.{since_renewal, since_minute, last_renewal, last_minute, none_since}
use Rattle.eu_model.proofs.MapLemmas.{get-map_values}

-- n more renewals
renewals : List Mark → ℕ → List Mark
renewals ms zero = ms
renewals ms (suc n) = renewals ms n ++ (Renewal ∷ [])

since_renewals : (ms : List Mark) (n : ℕ) → since (renewals ms n) ≡ since ms + n
unfolding renewals
since_renewals ms zero = omega arith
since_renewals ms (suc n) = since_renewal (renewals ms n) ∙ omega (arith, since_renewals ms n)

last_renewals : (ms : List Mark) (n : ℕ) → last (renewals ms n) ≡ last ms
unfolding renewals
last_renewals ms zero = refl
last_renewals ms (suc n) = last_renewal (renewals ms n) ∙ last_renewals ms n

marks_of : ℕ → ℕ → List Mark
marks_of l n = renewals (renewals [] l ++ (Minute ∷ [])) n

last_of : (l n : ℕ) → last (marks_of l n) ≡ l
unfolding marks_of
last_of l n =
    last_renewals (renewals [] l ++ (Minute ∷ [])) n ∙ last_minute (renewals [] l) ∙ since_renewals [] l ∙ omega (arith, none_since)

since_of : (l n : ℕ) → since (marks_of l n) ≡ n
unfolding marks_of
since_of l n =
    since_renewals (renewals [] l ++ (Minute ∷ [])) n ∙ omega (arith, since_minute (renewals [] l))

pub both_ways : (o : Option Listed) → option_map listed (option_map raised o) ≡ o
both_ways None = refl
both_ways (Some l) = refl

leases_back : (m : FinMap key_cmp Listed) → map_values listed (map_values raised m) ≡ m
leases_back m = same_map keys_total keys_exact _ _ (λ q.
    get-map_values key_cmp listed (map_values raised m) q ∙ ap (option_map listed) (get-map_values key_cmp raised m q) ∙ both_ways (get m q))

pub raise : (p : Plain) → (s : Machine) × (plain s ≡ p)
raise p =
    let s : Machine = record { config = p.config; leases = map_values raised p.leases; overrides = p.overrides; expected = p.expected; marks = marks_of p.last p.since; previous = p.previous } in
    let e1 = leases_back p.leases in
    let e2 = last_of p.last p.since in
    let e3 = since_of p.last p.since in
    (s, λ i. record { config = p.config; leases = e1 i; overrides = p.overrides; expected = p.expected; last = e2 i; since = e3 i; previous = p.previous })
