-- All workers, place by place
use Rattle.std.proofs.Common.{◌≡◌, ◌<◌, ◌≤◌, ◌+◌, ◌-◌, ◌∙◌, ℕ, List, set, get_or, length, arith, subst, sym, ap, ⊎_elim, get_or-set_same, get_or-set_other}
use Rattle.std.proofs.lemmas.Bool.{cases_lt}
use Rattle.std.proofs.lemmas.List.{get_or_default}
use Rattle.eu_clock.specs.Front.{Asks}
use Rattle.eu_workers.specs.declared.all.Worker.{Worker}
use Rattle.eu_workers.specs.declared.all.Worker.TheVariants.{Ready, Numbered, Working, Done}
use Rattle.eu_workers.specs.All.{IsNumbered, HasRun, IsEnded}

-- a worker that is numbered, and then runs
pub ended : {K S C H P : Type 0} (chooser : Asks H) (u v w : Worker K S C H P) → IsNumbered u v → HasRun chooser v w → IsEnded chooser u w
ended chooser (Ready job) v w n r = subst (λ x. HasRun chooser x w) n.1 r
ended chooser (Numbered k job) v w n r = subst (λ x. HasRun chooser x w) n r
ended chooser Working v w n r = subst (λ x. HasRun chooser x w) n r
ended chooser (Done q e left) v w n r = subst (λ x. HasRun chooser x w) n r

-- what a relation does to each element of a list that is turned round, turned back
pub turned : {X : Type 0} (R : X → X → Type 0) (old mid now new : List X)
    → length mid ≡ length old → length now ≡ length old
    → ((k : ℕ) (d : X) → k < length old → get_or mid k d ≡ get_or old (length old - 1 - k) d)
    → ((k : ℕ) (d : X) → k < length now → get_or new k d ≡ get_or now (length now - 1 - k) d)
    → ((i : ℕ) (d : X) → i < length mid → R (get_or mid i d) (get_or now i d))
    → (i : ℕ) (d : X) → i < length old → R (get_or old i d) (get_or new i d)
turned {X} R old mid now new mids nows there back each i d below =
    let j = length old - 1 - i in
    let few : j < length old = omega (arith, below) in
    let twice : length old - 1 - j ≡ i = omega (arith, below) in
    let from : get_or mid j d ≡ get_or old i d = there j d few ∙ ap (λ (k : ℕ). get_or old k d) twice in
    let at : get_or new i d ≡ get_or now j d = back i d (subst (λ (n : ℕ). i < n) (sym nows) below) ∙ ap (λ (n : ℕ). get_or now (n - 1 - i) d) nows in
    subst (λ (v : X). R v (get_or new i d)) from (subst (λ (v : X). R (get_or mid j d) v) (sym at) (each j d (subst (λ (n : ℕ). j < n) (sym mids) few)))

-- one more element of a list is changed by a relation
module _ {X : Type 0} (R : X → X → Type 0) (old now : List X) (i : ℕ) (d₀ y : X) where
  pub change_here : (d : X) → i < length now → R (get_or now i d₀) y → get_or now i d ≡ get_or old i d → R (get_or old i d) (get_or (set now i y) i d)
  change_here d below r rest =
      let at = subst (λ (v : X). R v y) (get_or_default now i d₀ d below) r in
      let from = subst (λ (v : X). R v y) rest at in
      subst (λ (v : X). R (get_or old i d) v) (sym (get_or-set_same now i y d below)) from

  pub change_more : i < length now → R (get_or now i d₀) y
      → ((k : ℕ) (d : X) → k < i → R (get_or old k d) (get_or now k d))
      → ((k : ℕ) (d : X) → i ≤ k → get_or now k d ≡ get_or old k d)
      → (k : ℕ) (d : X) → k < i + 1 → R (get_or old k d) (get_or (set now i y) k d)
  change_more below r front rest k d few = ⊎_elim
      (λ lt. subst (λ (v : X). R (get_or old k d) v) (sym (get_or-set_other now i k y d (λ e. omega (arith, e, lt)))) (front k d lt))
      (λ ge.
      let is : i ≡ k = omega (arith, ge, few) in
      subst (λ (j : ℕ). R (get_or old j d) (get_or (set now i y) j d)) is (change_here d below r (rest i d (omega arith))))
      (cases_lt k i)

  pub keep_rest : ((k : ℕ) (d : X) → i ≤ k → get_or now k d ≡ get_or old k d)
      → (k : ℕ) (d : X) → i + 1 ≤ k → get_or (set now i y) k d ≡ get_or old k d
  keep_rest rest k d more = get_or-set_other now i k y d (λ e. omega (arith, e, more)) ∙ rest k d (omega (arith, more))
