use Rattle.std.proofs.Common.{sym, ap, ◌∙◌, slice_set}
use Rattle.std.specs.Prelude.{Ok, slice_get}
use Rattle.eu_model.specs.Server.{PlainServer}
use Rattle.eu_audit.proofs.QueueLemmas.{lent, none_of}
use Rattle.eu_audit.proofs.server.ServerReplica.land.Goals as goal

pub returns : goal.returns
returns c =
    let queues = c.self.inside.queues in
    let q = c.in-Settled-Some.queue.now in
    let found = lent queues.items c.args.peer _ q queues.ok.0 c.in-Settled-Some.ensures.variant.0 c.in-Settled-Some.ensures.value in
    let none = none_of c.in_ok-land.field-0 c.if-is_some.ensures in (
      c.land.new.self,
      (q, ap (λ (p : PlainServer). slice_get p.queues c.args.peer) (sym c.self.view_is) ∙ found, sym c.in_ok-land.ensures.fault ∙ none, c.in_ok-land.ensures.landed (ap Ok none), ap (λ (p : PlainServer). record p { queues = slice_set p.queues c.args.peer c.land.new.self }) c.self.view_is),
      c.in-Settled-Some.is-0,
    )
