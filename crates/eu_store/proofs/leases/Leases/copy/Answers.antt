use Rattle.std.proofs.Common.{List, sym, ap, subst, ◌∙◌, arith}
use Rattle.std.specs.Option.{option_map}
use Rattle.std.specs.FinMap.{get, insert}
use Rattle.std.specs.List.{IsDistinct}
use Rattle.std.specs.Map.{keys_of}
use Rattle.std.specs.Map.Iter.{deref_pair}
use Rattle.eu_base.specs.declared.names.Key.{Key}
use Rattle.eu_base.specs.Values.{key_eq}
use Rattle.eu_model.specs.declared.views.Listed.{Listed}
use Rattle.eu_store.proofs.CopyLemmas.{copy_more, copy_new}
use Rattle.eu_store.proofs.TableLemmas.{by_key}
use Rattle.eu_store.proofs.leases.Leases.copy.Goals as goal

pub insert-requires-clause-new : goal.insert-requires-clause-new
insert-requires-clause-new c =
    let r = c.unwrap.result in
    let at = ap (option_map deref_pair) (sym c.unwrap.ensures) ∙ c.get_index.ensures.entry in
    let once = subst (λ (l : List (Key × Listed)). IsDistinct key_eq (keys_of l)) (sym c.as_slice-entries.ensures.entries) c.as_slice-entries.ensures.unique in
    (λ i. get (c.reserve.ensures.held i) (c.in_ok-copy.ensures i))
    ∙ copy_new by_key c.loop-left.copy.held c.as_slice-entries.result c.loop-left.left r.0.now r.1.now once c.loop-left-test.true at c.loop-left.invariant.same

pub loop-left-preserved : goal.loop-left-preserved
loop-left-preserved c =
    let r = c.unwrap.result in
    let at = ap (option_map deref_pair) (sym c.unwrap.ensures) ∙ c.get_index.ensures.entry in
    let put = c.insert.ensures.held ∙ (λ i. insert (c.reserve.ensures.held i) (c.in_ok-copy.ensures i) (c.in_ok-copy-2.ensures i)) in
    record {
      within = omega (arith, c.loop-left.invariant.within);
      same = copy_more c.loop-left.copy.held c.insert.new.self.held c.as_slice-entries.result c.loop-left.left r.0.now r.1.now c.loop-left-test.true at put c.loop-left.invariant.same;
    }
