use Rattle.eu_server.proofs.Adding.{three}
use Rattle.eu_server.proofs.serve.add_timers.Goals as goal

pub returns-clause-made : goal.returns-clause-made
returns-clause-made g c =
    three c.args.workers.now.items c.add.new.workers.items c.add-2.new.workers.items c.add-3.new.workers.items c.args.chooser
    c.in_ok-add.ensures.made c.in_ok-add-2.ensures.made c.add-3.result c.add-3.ensures.made
