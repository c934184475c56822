use Rattle.std.proofs.Common.{◌-◌, ◌≤◌, ◌<◌, subst, refl, is_some, Some, length, min, set, sym, ap, ◌∙◌, arith}
use Rattle.eu_base.specs.declared.instances.Instance.{Instance}
use Rattle.indexmap.specs.IndexMap.{spare, set_value_at}
use Rattle.std.specs.FinMap as map
use Rattle.eu_model.specs.declared.views.Listed.{Listed}
use Rattle.eu_model.specs.View.{in_status, with_one_more, with_one_fewer}
use Rattle.eu_store.specs.Order.{undated}
use Rattle.eu_store.specs.Stored.{amended, counts_of}
use Rattle.eu_store.proofs.CountLemmas.{counts_changed, counts_most, counted_there}
use Rattle.eu_store.proofs.MapLemmas.{none_from_is_some}
use Rattle.eu_store.proofs.TableLemmas.{by_key, get_at, get_in, inserted, changed_in, unchanged_in}
use Rattle.eu_store.proofs.PartLemmas.{undated_of_value}
use Rattle.eu_store.proofs.PlaceLemmas.{same_some}
use Rattle.eu_store.proofs.IndexLemmas.{deadlines-set, length-set_value_at, written_at}
use Rattle.eu_store.proofs.leases.Leases.amend.Goals as goal

pub returns-in_default-clause-found : goal.returns-in_default-clause-found
returns-in_default-clause-found c = c.in_default.ensures.found ∙ sym (ap is_some (get_in by_key c.self.inside.table.entries c.args.self.now.held c.args.key.now _ (ap (λ s. s.held) c.self.view_is) refl))

pub returns-in_default-clause-held : goal.returns-in_default-clause-held
returns-in_default-clause-held c =
    let es = c.self.inside.table.entries in
    let view = ap (λ s. s.held) c.self.view_is in
    sym view ∙ unchanged_in by_key (amended c.args.amendment) es es c.args.self.now.held c.args.key.now view (sym (none_from_is_some _ (sym c.in_default.ensures.found))) refl

pub recount-requires-clause-before : goal.recount-requires-clause-before
recount-requires-clause-before c =
    let es = c.self.inside.table.entries in
    let there = get_at by_key es c.args.key.now ∙ sym c.in-Some.ensures.value ∙ c.index_mut-held.ensures.value in
    subst (λ n. 0 < n) (λ i. in_status (sym c.self.invariant.2 i) (sym (c.status-before.ensures ∙ ap (λ (j : Instance). j.status) c.instance.ensures) i)) (counted_there (map.from_entries es) c.args.key.now c.index_mut-held.result.now there)

pub recount-requires-clause-after : goal.recount-requires-clause-after
recount-requires-clause-after c =
    omega (arith, c.self.invariant.0, ap (λ n. in_status n c.status.result) c.self.invariant.2, counts_most c.self.inside.table.entries c.status.result)

pub invariant_of-self : goal.invariant_of-self
invariant_of-self c =
    let es = c.self.inside.table.entries in
    let short : length (set_value_at es c.in-Some.place c.amend.new.self) ≤ 65536 = omega (arith, c.self.invariant.0, length-set_value_at es c.in-Some.place c.amend.new.self) in
    let k = c.args.key.now in
    let value = c.index_mut-held.ensures.value in
    let there = get_at by_key es k ∙ sym c.in-Some.ensures.value ∙ value in
    let same = same_some _ _ (sym value ∙ c.index.ensures) in
    let now = inserted by_key es (set_value_at es c.in-Some.place c.amend.new.self) k c.amend.new.self
    (written_at c.self.inside.table k c.in-Some.place c.index_mut-held.result.now c.amend.new.self c.in-Some.ensures.unique (sym c.in-Some.ensures.index) value) in (
      short,
      c.set.ensures.list ∙ (λ i. set (c.self.invariant.1 i) c.in-Some.place (c.deadline.ensures i)) ∙ sym (deadlines-set es c.in-Some.place c.amend.new.self),
      c.recount.ensures ∙ (λ i. with_one_more (with_one_fewer (c.self.invariant.2 i) ((c.status-before.ensures ∙ ap (λ (j : Instance). j.status) c.instance.ensures) i)) ((c.status.ensures ∙ ap (λ (j : Instance). j.status) c.instance-2.ensures) i))
          ∙ counts_changed (map.from_entries es) k c.index_mut-held.result.now c.amend.new.self there ∙ sym (ap counts_of now),
      c.change.ensures.ordered c.amend.new.self (λ is_kept. sym (undated_of_value es c.in-Some.place c.index_mut-held.result.now value ∙ ap (λ (l : Listed). Some l) (sym (ap undated c.amend.ensures ∙ ap (λ (l : Listed). undated (amended c.args.amendment l)) same ∙ c.renews-is_kept.ensures is_kept ∙ ap undated (sym same))))),
    )

pub returns-clause-found : goal.returns-clause-found
returns-clause-found c = c.in-Some.ensures.found ∙ sym (ap is_some (get_in by_key c.self.inside.table.entries c.args.self.now.held c.args.key.now _ (ap (λ s. s.held) c.self.view_is) refl))

pub returns-clause-held : goal.returns-clause-held
returns-clause-held c =
    let m = c.self.inside.table in
    let there = c.index_mut-held.ensures.value in
    changed_in by_key (amended c.args.amendment) m.entries (set_value_at m.entries c.in-Some.place c.amend.new.self) c.args.self.now.held c.args.key.now c.index_mut-held.result.now c.amend.new.self (ap (λ s. s.held) c.self.view_is) (sym there ∙ c.in-Some.ensures.value)
    (written_at m c.args.key.now c.in-Some.place c.index_mut-held.result.now c.amend.new.self c.in-Some.ensures.unique (sym c.in-Some.ensures.index) there) c.amend.ensures

pub returns-clause-room : goal.returns-clause-room
returns-clause-room c =
    (λ i. min (min (min (spare c.self.inside.table) (c.set.ensures.room i)) (c.change.ensures.room i)) (65536 - length-set_value_at c.self.inside.table.entries c.in-Some.place c.amend.new.self i)) ∙ ap (λ s. s.room) c.self.view_is
