use Rattle.std.proofs.Common.{sym, ap, ◌∙◌, arith}
use Rattle.std.specs.Option.{option_map}
use Rattle.std.specs.FinMap.{insert}
use Rattle.std.specs.Map.Iter.{deref_pair}
use Rattle.eu_store.proofs.CopyLemmas.{copy_more}
use Rattle.eu_eviction.proofs.overrides.Overrides.copy.Goals as goal

pub loop-left-preserved : goal.loop-left-preserved
loop-left-preserved c =
    let r = c.unwrap.result in
    let at = ap (option_map deref_pair) (sym c.unwrap.ensures) ∙ c.get_index.ensures.entry in
    let put = c.insert.ensures ∙ (λ i. insert (c.in_ok-reserve.ensures.rows i) (c.in_ok-copy.ensures i) r.1.now) in
    record {
      within = omega (arith, c.loop-left.invariant.within);
      same = copy_more c.loop-left.copy.rows c.insert.new.self.rows c.as_slice-entries.result c.loop-left.left r.0.now r.1.now c.loop-left-test.true at put c.loop-left.invariant.same;
    }
