use Rattle.std.proofs.Common.{◌∙◌, refl, ap, subst, sym, slice_set}
use Rattle.std.specs.Prelude.{Ok, Err, replicate}
use Rattle.std.proofs.lemmas.Result.{err_from_is_err_and}
use Rattle.eu_base.specs.declared.faults.Fault.TheVariants.{NoPeer, OutOfMemory}
use Rattle.eu_model.specs.declared.commands.Command.TheVariants.{Drain}
use Rattle.eu_model.specs.Answers.{IsRefusal}
use Rattle.eu_book.specs.Peers.{QueuesAnswer, queues_of}
use Rattle.eu_book.proofs.PeerLemmas.{lent, past, same_queue, drains, refuses_to_drain, nobody_drains}
use Rattle.eu_book.proofs.peers.Peers.drain.Goals as goal

pub returns-in_default-clause-refused : goal.returns-in_default-clause-refused
returns-in_default-clause-refused c =
    let boxes = c.self.inside.outboxes.items in
    let none = past boxes c.args.peer _ c.self.inside.outboxes.ok.0 c.in_default.ensures.variant.1 in
    subst (λ b. QueuesAnswer b (Drain c.args.peer) c.args.moment (Err NoPeer) b) c.self.view_is (nobody_drains boxes c.args.peer none c.args.moment)

pub returns-in-Some-drain_refusal-clause-refused : goal.returns-in-Some-drain_refusal-clause-refused
returns-in-Some-drain_refusal-clause-refused c =
    let boxes = c.self.inside.outboxes.items in
    let found = lent boxes c.args.peer _ c.in-Some.outbox.now c.self.inside.outboxes.ok.0 c.in-Some.ensures.variant.0 c.in-Some.ensures.value in
    let f = c.in-Some-drain_refusal.fault in
    let is = sym c.drain_refusal.ensures ∙ c.in-Some-drain_refusal.is in
    subst (λ b. QueuesAnswer b (Drain c.args.peer) c.args.moment (Err f) b) c.self.view_is
    (refuses_to_drain boxes c.args.peer c.in-Some.outbox.now found c.args.moment f (subst (λ o. IsRefusal o f) (sym is) refl))

pub returns-in_err-room-clause-refused : goal.returns-in_err-room-clause-refused
returns-in_err-room-clause-refused c =
    let p = err_from_is_err_and c.from_residual.result c.from_residual.ensures.1 in
    let boxes = c.self.inside.outboxes.items in
    let found = lent boxes c.args.peer _ c.in-Some.outbox.now c.self.inside.outboxes.ok.0 c.in-Some.ensures.variant.0 c.in-Some.ensures.value in
    let none = sym c.drain_refusal.ensures ∙ c.in_default-drain_refusal.is in
    rw (p.1, p.2) (subst (λ b. QueuesAnswer b (Drain c.args.peer) c.args.moment (Err OutOfMemory) b) c.self.view_is
    (refuses_to_drain boxes c.args.peer c.in-Some.outbox.now found c.args.moment OutOfMemory (subst (λ o. IsRefusal o OutOfMemory) (sym none) refl)))

pub returns-in_err-batches-clause-refused : goal.returns-in_err-batches-clause-refused
returns-in_err-batches-clause-refused c =
    let p = err_from_is_err_and c.from_residual-in_err-batches.result c.from_residual-in_err-batches.ensures.1 in
    let boxes = c.self.inside.outboxes.items in
    let found = lent boxes c.args.peer _ c.in-Some.outbox.now c.self.inside.outboxes.ok.0 c.in-Some.ensures.variant.0 c.in-Some.ensures.value in
    let f = c.in_err-batches.field-0.0 in
    rw (p.1, p.2) (subst (λ b. QueuesAnswer b (Drain c.args.peer) c.args.moment (Err f) b) c.self.view_is (refuses_to_drain boxes c.args.peer c.in-Some.outbox.now found c.args.moment f c.in_err-batches.ensures.refused))

pub returns-in_err-batches-clause-err : goal.returns-in_err-batches-clause-err
returns-in_err-batches-clause-err c =
    let p = err_from_is_err_and c.from_residual-in_err-batches.result c.from_residual-in_err-batches.ensures.1 in
    let boxes = c.self.inside.outboxes.items in
    let found = lent boxes c.args.peer _ c.in-Some.outbox.now c.self.inside.outboxes.ok.0 c.in-Some.ensures.variant.0 c.in-Some.ensures.value in
    rw p.1 (same_queue boxes c.args.peer c.in-Some.outbox.now found c.drain.new.self c.in_err-batches.ensures.err ∙ ap queues_of c.self.view_is)

pub returns-clause-ok : goal.returns-clause-ok
returns-clause-ok c =
    let boxes = c.self.inside.outboxes.items in
    let found = lent boxes c.args.peer _ c.in-Some.outbox.now c.self.inside.outboxes.ok.0 c.in-Some.ensures.variant.0 c.in-Some.ensures.value in
    let next = c.drain.new.self in
    let reply = (c.batched.ensures next.queue.flight c.args.logs (c.in_ok-batches.ensures.batches ∙ ap (λ n. replicate n next.queue.flight) c.replies_for.ensures)).0 in
    let answer = drains boxes c.args.peer c.in-Some.outbox.now found c.args.moment next c.in_ok-batches.ensures.fault c.in_ok-batches.ensures.drained in
    subst (λ b. QueuesAnswer b (Drain c.args.peer) c.args.moment (Ok c.batched.result.reply) (slice_set boxes c.args.peer next)) c.self.view_is
    (subst (λ r. QueuesAnswer boxes (Drain c.args.peer) c.args.moment (Ok r) (slice_set boxes c.args.peer next)) (sym reply) answer)
