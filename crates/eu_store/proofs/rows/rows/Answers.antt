use Rattle.std.proofs.Common.{◌≡◌, Bool, [], ◌++◌, map, sym, ap, subst, ◌∙◌, rules, IsPermutation, IsSorted, append-nil}
use Rattle.std.specs.List.{IsDistinct}
use Rattle.std.specs.Map.{keys_of}
use Rattle.std.specs.Map.Iter.{deref_pair}
use Rattle.std.specs.Option.{option_copied}
use Rattle.std.specs.FinMap.Entries.{where_key}
use Rattle.std.proofs.lemmas.List.Sorted.{IsPermutation-map, answers_always}
use Rattle.std.proofs.lemmas.Map.Iter.{rest_all}
use Rattle.eu_base.specs.declared.names.Key.{Key}
use Rattle.eu_base.specs.Values.{key_cmp}
use Rattle.eu_base.proofs.KeyLemmas.{keys_total, keys_exact, key_eq-tie}
use Rattle.eu_model.specs.View.{is_of}
use Rattle.eu_store.proofs.RowLemmas.{gathered_rows, keys_sorted, keys_shown}
use Rattle.eu_store.proofs.rows.rows.Goals as goal

pub returns : goal.returns
returns c =
    let p = is_of (option_copied c.args.app) in
    let es = c.args.table.now.entries in
    let rows = c.sort_by_key.new.self.items in
    let none = rest_all deref_pair c.loop-key.key-iterator c.next.new.self c.next.result c.in-None.is c.next.ensures.steps in
    let all : map deref_pair c.loop-key.rows.items ≡ where_key key_cmp p es =
    sym (append-nil _) ∙ ap (λ r. map deref_pair c.loop-key.rows.items ++ where_key key_cmp p r) (sym none) ∙ c.loop-key.invariant ∙ ap (where_key key_cmp p) (c.into_iter-key-iterator.ensures.into_iter_gives ∙ c.iter-key-items.ensures.rest) in
    let moved : IsPermutation (where_key key_cmp p es) (map deref_pair rows) = subst (λ l. IsPermutation l (map deref_pair rows)) all (IsPermutation-map deref_pair c.loop-key.rows.items rows c.in_ok-sort_by_key.ensures.permutation) in
    let up : IsSorted key_cmp (keys_of (map deref_pair rows)) =
    subst (IsSorted key_cmp) (keys_shown rows) (keys_sorted key_cmp (λ r. r.0.now) rows (c.in_ok-sort_by_key.ensures.sorted (λ r. r.0) (answers_always _ _ _ (λ f a r g h. search rules)))) in
    gathered_rows key_cmp keys_total keys_exact (record { app = []; id = [] }) p es (map deref_pair rows) (subst (λ (e : Key → Key → Bool). IsDistinct e (keys_of es)) key_eq-tie c.iter-key-items.ensures.unique) moved up
