use Rattle.std.proofs.Common.{arith, ◌+◌}
use Rattle.eu_server.proofs.Adding.{one_more}
use Rattle.eu_server.proofs.serve.add_sessions.Goals as goal

pub loop-source-preserved : goal.loop-source-preserved
loop-source-preserved g c =
    let (count, all, sessions, are, is) = c.loop-source.invariant.2 in
    let (more, ready, added) = one_more c.args.workers.now.items c.loop-source.workers.items c.add.new.workers.items count _ (sessions, are, is) c.in_ok-add.ensures.made in
    (tt, tt, (count + 1, omega (arith, all, c.in-Some.ensures.steps.1), more, ready, added))
