use Rattle.std.proofs.Common.{◌≡◌, ◌≤◌, ◌++◌, [], length, take, ap, sym, subst, ◌∙◌, arith}
use Rattle.std.proofs.lemmas.List.{length-drop, nil_from_length}
use Rattle.eu_outbox.specs.Steps.{IsApart}
use Rattle.eu_outbox.proofs.TaskLemmas.{IsApart-take, length-live, nothing_flies}
use Rattle.eu_outbox.proofs.outbox.Outbox.drain.Goals as goal

pub invariant_of-self-2 : goal.invariant_of-self-2
invariant_of-self-2 c =
    let waiting = c.self.inside.waiting.tasks in
    let kept = c.keep_live.new.self.tasks in
    let empty : length c.self.inside.flight.items ≡ 0 =
    ap (λ s. length s.queue.flight) c.self.view_is ∙ nothing_flies c.args.moment c.args.self.now.queue (sym c.drain_refusal.ensures ∙ c.in_default.is) in
    let none : c.self.inside.flight.items ≡ [] = nil_from_length _ empty in
    let few : length c.send.new.self.tasks ≤ 10000 =
    omega (arith, ap length c.send.ensures.tasks, ap length c.keep_live.ensures.tasks, length-drop 250 kept, length-live c.args.moment waiting, c.self.invariant.0) in
    (few, subst IsApart (sym (c.send.ensures.batch ∙ ap (λ l. l ++ take 250 kept) (c.in_ok-reserve.ensures.items ∙ none))) (IsApart-take 250 kept c.keep_live.ensures.apart))
