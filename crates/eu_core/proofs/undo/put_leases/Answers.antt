use Rattle.std.proofs.Common.{◌≡◌, ◌∙◌, min, length, arith}
use Rattle.std.specs.Option.{option_copied}
use Rattle.eu_store.proofs.UndoLemmas.{put_more, with_values-short}
use Rattle.eu_core.proofs.undo.put_leases.Goals as goal

pub loop-left-init : goal.loop-left-init
loop-left-init c =
    let a = c.args in
    let least : c.min-left.result ≡ min (length a.keys.now) (length a.held.now) = omega (arith, c.min-left.ensures) in
    record {
      within = omega (arith, least);
      within_held = omega (arith, least);
      same = with_values-short a.leases.now.held a.keys.now a.held.now c.min-left.result least;
    }

pub loop-left-preserved : goal.loop-left-preserved
loop-left-preserved c =
    let a = c.args in
    let i = c.loop-left.invariant in
    record {
      within = omega (arith, i.within);
      within_held = omega (arith, i.within_held);
      same = put_more c.loop-left.leases.held c.put_lease.new.leases.held _ a.keys.now a.held.now c.loop-left.left c.index-keys-left.result c.index-keys-left.result (option_copied c.as_ref.result) c.index-held-left.result
          c.loop-left-test.true i.within i.within_held c.index-keys-left.is (c.as_ref.ensures.value ∙ c.index-held-left.is) c.in_ok-put_lease.ensures i.same;
    }
