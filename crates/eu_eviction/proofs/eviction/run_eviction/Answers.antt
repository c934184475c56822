use Rattle.std.proofs.Common.{◌≡◌, ◌++◌, ℕ, length, take, drop, sym, ap, subst, ◌∙◌, All, Contains, IsPermutation, List, arith}
use Rattle.std.proofs.Math.Seq.{take-append_seam}
use Rattle.std.proofs.lemmas.List.Elements.{All-contains_itself, All-take}
use Rattle.std.proofs.lemmas.List.Sorted.{All-permutation}
use Rattle.std.specs.List.{IsDistinct}
use Rattle.eu_base.specs.declared.names.Key.{Key}
use Rattle.eu_base.specs.Values.{key_eq}
use Rattle.eu_base.proofs.KeyLemmas.{key_eq-flips}
use Rattle.eu_eviction.specs.Eviction.{due}
use Rattle.eu_model.proofs.EvictionLemmas.{IsDistinct-take}
use Rattle.eu_eviction.proofs.OnceLemmas.{IsDistinct-due}
use Rattle.eu_eviction.proofs.eviction.run_eviction.Goals as goal

-- the front of a list that is written over a part of another
front_of : (n m : ℕ) (out xs rest : List Key) → out ≡ take n (take m (xs ++ rest)) → m ≡ length xs → out ≡ take n xs
front_of n m out xs rest e long = e ∙ ap (λ k. take n (take k (xs ++ rest))) long ∙ ap (take n) (take-append_seam xs rest)

pub returns-clause-expired : goal.returns-clause-expired
returns-clause-expired g c =
    let keys = due c.args.permitted c.args.leases.now.held c.args.moment c.args.extra in
    let shuffled = c.draw_all.new.keys in
    let moved = subst (λ (l : List Key). IsPermutation l shuffled) (c.deref_mut.ensures.value ∙ c.in_ok-keys.ensures) c.draw_all.ensures.permutation in
    let all = All-permutation (Contains keys) keys shuffled moved (All-contains_itself keys) in
    let kept = front_of _ c.in_ok-keys.keys.len c.truncate.new.self.items shuffled (drop (length shuffled) c.in_ok-keys.keys.items) c.truncate.ensures.items (omega arith) in
    subst (λ (l : List Key). All (Contains keys) l) (sym kept) (All-take (Contains keys) _ shuffled all)

pub returns-clause-once : goal.returns-clause-once
returns-clause-once g c =
    let shuffled = c.draw_all.new.keys in
    let apart = subst (λ (l : List Key). IsDistinct key_eq l) (sym (c.deref_mut.ensures.value ∙ c.in_ok-keys.ensures)) (IsDistinct-due c.args.permitted c.args.leases.now.held c.args.moment c.args.extra) in
    let moved = c.draw_all.ensures.distinct key_eq key_eq-flips apart in
    let kept = front_of _ c.in_ok-keys.keys.len c.truncate.new.self.items shuffled (drop (length shuffled) c.in_ok-keys.keys.items) c.truncate.ensures.items (omega arith) in
    subst (λ (l : List Key). IsDistinct key_eq l) (sym kept) (IsDistinct-take _ shuffled moved)
