use Rattle.std.proofs.Common.{◌<◌, length, sym, ap, subst, ◌∙◌, arith}
use Rattle.std.specs.List.{swap_remove}
use Rattle.eu_base.specs.declared.instances.Instance.{Instance}
use Rattle.eu_model.specs.View.{in_status, with_one_fewer}
use Rattle.eu_store.specs.Order.{map_by}
use Rattle.eu_store.specs.Stored.{counts_of, deadlines}
use Rattle.eu_store.proofs.CountLemmas.{counts_removed, counted_there}
use Rattle.eu_store.proofs.IndexLemmas.{deadlines-swap_remove}
use Rattle.eu_store.proofs.MapLemmas.{at_some}
use Rattle.eu_store.proofs.TableLemmas.{by_key, removed}
use Rattle.eu_store.proofs.SweepLemmas.{held_at}
use Rattle.eu_store.proofs.sweep.take_out.Goals as goal

pub remove-requires : goal.remove-requires
remove-requires c =
    let es = c.args.table.now.entries in
    let e = c.unwrap-key.result in
    let there = held_at es c.args.place e c.requires.unique (sym c.swap_remove_index.ensures.entry ∙ c.unwrap-key.ensures) in
    subst (λ n. 0 < n) (λ i. in_status (sym c.requires.counts i) (sym (c.status.ensures ∙ ap (λ (j : Instance). j.status) c.instance.ensures) i)) (counted_there (map_by es) e.0 e.1 there)

pub returns-clause-held : goal.returns-clause-held
returns-clause-held c = removed by_key c.args.table.now.entries c.swap_remove_index.new.self.entries c.unwrap-key.result.0 (at_some _ c.swap_remove_index.ensures.updates c.unwrap-key.ensures).0

pub returns-clause-there : goal.returns-clause-there
returns-clause-there c = held_at c.args.table.now.entries c.args.place c.unwrap-key.result c.requires.unique (sym c.swap_remove_index.ensures.entry ∙ c.unwrap-key.ensures)

pub returns-clause-index : goal.returns-clause-index
returns-clause-index c =
    let es = c.args.table.now.entries in
    let made = at_some _ c.swap_remove_index.ensures.entries c.unwrap-key.ensures in
    let some : 0 < length es = omega (arith, c.requires.within) in
    c.swap_remove.ensures.list ∙ ap (λ l. swap_remove l c.args.place 0) c.requires.index ∙ sym (ap deadlines made ∙ deadlines-swap_remove es c.args.place c.unwrap-key.result some)

pub returns-clause-counts : goal.returns-clause-counts
returns-clause-counts c =
    let es = c.args.table.now.entries in
    let e = c.unwrap-key.result in
    let there = held_at es c.args.place e c.requires.unique (sym c.swap_remove_index.ensures.entry ∙ c.unwrap-key.ensures) in
    let left = removed by_key es c.swap_remove_index.new.self.entries e.0 (at_some _ c.swap_remove_index.ensures.updates c.unwrap-key.ensures).0 in
    c.remove.ensures ∙ (λ i. with_one_fewer (c.requires.counts i) ((c.status.ensures ∙ ap (λ (j : Instance). j.status) c.instance.ensures) i)) ∙ counts_removed (map_by es) e.0 e.1 there ∙ sym (ap counts_of left)
