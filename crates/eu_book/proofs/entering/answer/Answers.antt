use Rattle.std.proofs.Common.{sym, ◌∙◌}
use Rattle.eu_book.specs.Peers.{queues_of}
use Rattle.eu_book.proofs.PeerLemmas.{early_refusal, never_wants}
use Rattle.eu_book.proofs.entering.answer.Goals as goal

pub returns-in-Some-clause-refused : goal.returns-in-Some-clause-refused
returns-in-Some-clause-refused g c =
    early_refusal c.args.steps c.args.registry.now c.args.peers.now c.args.command.now c.args.moment c.in-Some.fault c.if-steps-eq-MOST_STEPS.false (sym c.refusal.ensures ∙ c.in-Some.is)

pub returns-in-Some-clause-memory : goal.returns-in-Some-clause-memory
returns-in-Some-clause-memory g c = never_wants (queues_of c.args.peers.now) c.args.command.now c.args.moment c.in-Some.fault (sym c.refusal.ensures ∙ c.in-Some.is)
