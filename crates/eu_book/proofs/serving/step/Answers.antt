use Rattle.std.proofs.Common.{inr}
use Rattle.std.proofs.lemmas.Result.{IfErr-weaker, IfOk-weaker}
use Rattle.eu_model.proofs.ServedLemmas.{registry_refuses}
use Rattle.eu_book.specs.Peers.{queues_of}
use Rattle.eu_book.proofs.PeerLemmas.{told_nobody}
use Rattle.eu_book.proofs.serving.step.Goals as goal

pub returns-clause-refused : goal.returns-clause-refused
returns-clause-refused g c =
    IfErr-weaker c.step.result _ _ (λ f is. inr (registry_refuses c.args.registry.now (queues_of c.args.peers.now) c.args.command.now c.args.moment f c.requires.kind is)) c.step.ensures.refused

pub returns-clause-answers : goal.returns-clause-answers
returns-clause-answers g c =
    IfOk-weaker c.step.result _ _
    (λ s steps. told_nobody c.args.registry.now c.args.peers.now c.args.command.now c.args.moment s.answered.reply c.step.new.self c.requires.kind c.requires.untold steps.acts.answers)
    c.step.ensures.ok
