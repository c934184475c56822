use Rattle.std.proofs.Common.{◌≡◌, suc, vec_len, ap, ◌∙◌, arith}
use Rattle.std.proofs.lemmas.List.Elements.{All-pop}
use Rattle.eu_core.specs.Stepped.{copies_of}
use Rattle.eu_model.specs.Server.{task_for, with_task}
use Rattle.eu_book.specs.Peers.{IsReady, told_key}
use Rattle.eu_book.proofs.PeerLemmas.{pop_copies, told_push}
use Rattle.eu_book.proofs.peers.+tell_all.Goals as goal

pub tell_one-requires-clause-key : goal.tell_one-requires-clause-key
tell_one-requires-clause-key t c =
    let key = told_key c.args.command.now in
    let long : vec_len c.args.outboxes.now ≡ suc (vec_len c.pop.new.self) = omega (arith, c.in-Some.ensures.len) in
    (pop_copies (vec_len c.pop.new.self) _ key c.pop-2.result c.pop-2.new.self.items c.args.keys.now.items c.pop-2.ensures.items (c.requires.keys ∙ ap (λ n. copies_of n key) long) c.args.keys.now.ok.0 c.pop-2.ensures.variant.1).0

pub tell_all-requires : goal.tell_all-requires
tell_all-requires t c =
    let key = told_key c.args.command.now in
    let long : vec_len c.args.outboxes.now ≡ suc (vec_len c.pop.new.self) = omega (arith, c.in-Some.ensures.len) in
    let keys = (pop_copies (vec_len c.pop.new.self) _ key c.pop-2.result c.pop-2.new.self.items c.args.keys.now.items c.pop-2.ensures.items (c.requires.keys ∙ ap (λ n. copies_of n key) long) c.args.keys.now.ok.0 c.pop-2.ensures.variant.1).1 in
    (omega (arith, c.decreases, long), ((All-pop IsReady c.args.outboxes.now.items c.pop.new.self.items c.pop.result c.pop.ensures.items c.requires.ready).0, keys))

pub returns-clause-told : goal.returns-clause-told
returns-clause-told t c i held =
    let long : vec_len c.args.outboxes.now ≡ suc (vec_len c.pop.new.self) = omega (arith, c.in-Some.ensures.len) in
    let popped = pop_copies (vec_len c.pop.new.self) _ i c.pop-3.result c.pop-3.new.self.items c.args.held.now.items c.pop-3.ensures.items (held ∙ ap (λ n. copies_of n i) long) c.args.held.now.ok.0 c.pop-3.ensures.variant.1 in
    let one = c.tell_one.ensures ∙ ap (λ h. with_task (task_for c.args.command.now c.args.moment c.args.reply.now h) c.in-Some.last.queue) popped.0 in
    told_push (with_task (task_for c.args.command.now c.args.moment c.args.reply.now i)) c.args.outboxes.now.items c.pop.new.self.items c.tell_all.new.outboxes.items c.in-Some.last c.tell_one.new.outbox c.push_reserved.new.self.items
    c.in-Some.ensures.items c.push_reserved.ensures.items (c.tell_all.ensures.told i popped.1) one
