use Rattle.std.proofs.Common.{◌∙◌, ℕ, List, ap, subst, slice_set}
use Rattle.std.specs.Prelude.{Ok, Err}
use Rattle.std.proofs.lemmas.Result.{IfErr-weaker}
use Rattle.eu_base.specs.declared.faults.Fault.TheVariants.{NoPeer}
use Rattle.eu_model.specs.declared.commands.Command.TheVariants.{Landed}
use Rattle.eu_model.specs.declared.commands.Reply.TheVariants.{Settled}
use Rattle.eu_book.specs.Peers.{QueuesAnswer, queues_of}
use Rattle.eu_book.proofs.PeerLemmas.{on_ok, on_err, lent, past, same_queue, lands, refuses_to_land, nobody_lands}
use Rattle.eu_book.proofs.peers.Peers.landed.Goals as goal

pub returns-in_default-clause-refused : goal.returns-in_default-clause-refused
returns-in_default-clause-refused c =
    let boxes = c.self.inside.outboxes.items in
    let none = past boxes c.args.peer _ c.self.inside.outboxes.ok.0 c.in_default.ensures.variant.1 in
    subst (λ b. QueuesAnswer b (Landed c.args.peer c.args.codes.now) c.args.moment (Err NoPeer) b) c.self.view_is (nobody_lands boxes c.args.peer none c.args.moment c.args.codes.now)

pub returns-clause-ok : goal.returns-clause-ok
returns-clause-ok c =
    let boxes = c.self.inside.outboxes.items in
    let found = lent boxes c.args.peer _ c.in-Some.outbox.now c.self.inside.outboxes.ok.0 c.in-Some.ensures.variant.0 c.in-Some.ensures.value in
    let next = c.landed.new.self in
    let answers = λ (codes : List ℕ). QueuesAnswer c.args.self.now (Landed c.args.peer codes) c.args.moment (Ok Settled) (slice_set boxes c.args.peer next) in
    on_ok c.landed.result
    (λ done none. subst answers c.as_slice.ensures (subst (λ b. QueuesAnswer b (Landed c.args.peer c.as_slice.result.now) c.args.moment (Ok Settled) (slice_set boxes c.args.peer next)) c.self.view_is (lands boxes c.args.peer c.in-Some.outbox.now found c.args.moment c.as_slice.result.now next none done)))
    c.landed.ensures.landed c.landed.ensures.fault

pub returns-clause-refused : goal.returns-clause-refused
returns-clause-refused c =
    let boxes = c.self.inside.outboxes.items in
    let found = lent boxes c.args.peer _ c.in-Some.outbox.now c.self.inside.outboxes.ok.0 c.in-Some.ensures.variant.0 c.in-Some.ensures.value in
    IfErr-weaker c.landed.result _ _
    (λ f is. subst (λ codes. QueuesAnswer c.args.self.now (Landed c.args.peer codes) c.args.moment (Err f) c.args.self.now) c.as_slice.ensures (subst (λ b. QueuesAnswer b (Landed c.args.peer c.as_slice.result.now) c.args.moment (Err f) b) c.self.view_is (refuses_to_land boxes c.args.peer c.in-Some.outbox.now found c.args.moment c.as_slice.result.now f is)))
    c.landed.ensures.refused

pub returns-clause-err : goal.returns-clause-err
returns-clause-err c =
    let boxes = c.self.inside.outboxes.items in
    let found = lent boxes c.args.peer _ c.in-Some.outbox.now c.self.inside.outboxes.ok.0 c.in-Some.ensures.variant.0 c.in-Some.ensures.value in
    on_err c.landed.result (λ is. same_queue boxes c.args.peer c.in-Some.outbox.now found c.landed.new.self is ∙ ap queues_of c.self.view_is) c.landed.ensures.err
