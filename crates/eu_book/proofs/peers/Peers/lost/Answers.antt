use Rattle.std.proofs.Common.{◌∙◌, ap, subst, slice_set}
use Rattle.std.specs.Prelude.{Ok, Err}
use Rattle.std.proofs.lemmas.Result.{IfErr-weaker}
use Rattle.eu_base.specs.declared.faults.Fault.TheVariants.{NoPeer}
use Rattle.eu_model.specs.declared.commands.Command.TheVariants.{Lost}
use Rattle.eu_model.specs.declared.commands.Reply.TheVariants.{Settled}
use Rattle.eu_book.specs.Peers.{QueuesAnswer, queues_of}
use Rattle.eu_book.proofs.PeerLemmas.{on_ok, on_err, lent, past, same_queue, loses, refuses_to_lose, nobody_loses}
use Rattle.eu_book.proofs.peers.Peers.lost.Goals as goal

pub returns-in_default-clause-refused : goal.returns-in_default-clause-refused
returns-in_default-clause-refused c =
    let boxes = c.self.inside.outboxes.items in
    let none = past boxes c.args.peer _ c.self.inside.outboxes.ok.0 c.in_default.ensures.variant.1 in
    subst (λ b. QueuesAnswer b (Lost c.args.peer) c.args.moment (Err NoPeer) b) c.self.view_is (nobody_loses boxes c.args.peer none c.args.moment)

pub returns-clause-ok : goal.returns-clause-ok
returns-clause-ok c =
    let boxes = c.self.inside.outboxes.items in
    let found = lent boxes c.args.peer _ c.in-Some.outbox.now c.self.inside.outboxes.ok.0 c.in-Some.ensures.variant.0 c.in-Some.ensures.value in
    let next = c.lost.new.self in
    on_ok c.lost.result (λ done none. subst (λ b. QueuesAnswer b (Lost c.args.peer) c.args.moment (Ok Settled) (slice_set boxes c.args.peer next)) c.self.view_is (loses boxes c.args.peer c.in-Some.outbox.now found c.args.moment next none done)) c.lost.ensures.lost c.lost.ensures.fault

pub returns-clause-refused : goal.returns-clause-refused
returns-clause-refused c =
    let boxes = c.self.inside.outboxes.items in
    let found = lent boxes c.args.peer _ c.in-Some.outbox.now c.self.inside.outboxes.ok.0 c.in-Some.ensures.variant.0 c.in-Some.ensures.value in
    IfErr-weaker c.lost.result _ _ (λ f is. subst (λ b. QueuesAnswer b (Lost c.args.peer) c.args.moment (Err f) b) c.self.view_is (refuses_to_lose boxes c.args.peer c.in-Some.outbox.now found c.args.moment f is)) c.lost.ensures.refused

pub returns-clause-err : goal.returns-clause-err
returns-clause-err c =
    let boxes = c.self.inside.outboxes.items in
    let found = lent boxes c.args.peer _ c.in-Some.outbox.now c.self.inside.outboxes.ok.0 c.in-Some.ensures.variant.0 c.in-Some.ensures.value in
    on_err c.lost.result (λ is. same_queue boxes c.args.peer c.in-Some.outbox.now found c.lost.new.self is ∙ ap queues_of c.self.view_is) c.lost.ensures.err
