use Rattle.std.proofs.Common.{◌∙◌, length-set}
use Rattle.eu_workers.specs.All.{IsNumbered}
use Rattle.eu_workers.proofs.AllLemmas.{change_more, keep_rest}
use Rattle.eu_workers.proofs.all.number_all.Goals as goal

pub loop-i-preserved : goal.loop-i-preserved
loop-i-preserved g c =
    let before = c.loop-i.invariant in
    record {
      len = length-set c.loop-i.workers c.loop-i.i c.number.new.worker ∙ before.len;
      numbered = change_more IsNumbered c.args.workers.now c.loop-i.workers c.loop-i.i c.index-workers-i.result c.number.new.worker (rw (← before.len) at c.loop-i-test.true) c.number.ensures before.numbered before.rest;
      rest = keep_rest IsNumbered c.args.workers.now c.loop-i.workers c.loop-i.i c.index-workers-i.result c.number.new.worker before.rest;
    }
