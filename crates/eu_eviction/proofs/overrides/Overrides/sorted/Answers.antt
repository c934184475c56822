use Rattle.std.proofs.Common.{◌≡◌, Bool, List, ℕ, [], ◌++◌, true, map, filter, sym, ap, subst, ◌∙◌, rules, IsPermutation, IsSorted, append-nil}
use Rattle.std.specs.List.{IsDistinct}
use Rattle.std.specs.Ordering.{eq_by_cmp}
use Rattle.std.specs.FinMap.{entries}
use Rattle.std.specs.Map.{keys_of}
use Rattle.std.specs.Map.Iter.{deref_pair}
use Rattle.std.proofs.lemmas.List.Sorted.{IsPermutation-map, answers_always}
use Rattle.std.proofs.lemmas.Map.Iter.{rest_all}
use Rattle.eu_base.specs.Values.{name_cmp, name_eq}
use Rattle.eu_base.proofs.KeyLemmas.{names_total, names_exact, name_eq-ties}
use Rattle.eu_model.proofs.ListingLemmas.{filter_true}
use Rattle.eu_store.proofs.RowLemmas.{gathered_rows, keys_sorted, keys_shown}
use Rattle.eu_eviction.proofs.overrides.Overrides.sorted.Goals as goal

-- as one equation of the two tests
name_eq-tie : name_eq ≡ eq_by_cmp name_cmp
name_eq-tie i a b = name_eq-ties a b i

pub returns : goal.returns
returns c =
    let es = c.self.inside.table.entries in
    let rows = c.sort_by_key.new.self.items in
    let none = rest_all deref_pair c.loop-id.id-iterator c.next.new.self c.next.result c.in-None.is c.next.ensures.steps in
    let all : map deref_pair c.loop-id.rows.items ≡ es =
    sym (append-nil _) ∙ ap (λ r. map deref_pair c.loop-id.rows.items ++ r) (sym none) ∙ c.loop-id.invariant ∙ c.into_iter-id-iterator.ensures.into_iter_gives ∙ c.iter-id-items.ensures.rest in
    let moved : IsPermutation (filter (λ e. true) es) (map deref_pair rows) =
    subst (λ l. IsPermutation l (map deref_pair rows)) (all ∙ sym (filter_true es)) (IsPermutation-map deref_pair c.loop-id.rows.items rows c.in_ok-sort_by_key.ensures.permutation) in
    let up : IsSorted name_cmp (keys_of (map deref_pair rows)) =
    subst (IsSorted name_cmp) (keys_shown rows) (keys_sorted name_cmp (λ r. r.0.now) rows (c.in_ok-sort_by_key.ensures.sorted (λ r. r.0) (answers_always _ _ _ (λ f a r g h. search rules)))) in
    gathered_rows name_cmp names_total names_exact (let none : List ℕ = [] in none) (λ k. true) es (map deref_pair rows)
    (subst (λ (e : List ℕ → List ℕ → Bool). IsDistinct e (keys_of es)) name_eq-tie c.iter-id-items.ensures.unique) moved up
    ∙ filter_true _
    ∙ ap (λ s. entries s.rows) c.self.view_is
