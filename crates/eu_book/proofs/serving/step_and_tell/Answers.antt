use Rattle.std.proofs.Common.{◌∙◌, ap, inl, inr, map, sym}
use Rattle.std.proofs.lemmas.Result.{err_from_is_err_and}
use Rattle.eu_core.specs.Stepped.{copies_of, instance_held}
use Rattle.eu_model.specs.Server.{task_for, with_task}
use Rattle.eu_model.proofs.ServedLemmas.{registry_refuses}
use Rattle.eu_book.specs.Peers.{queues_of}
use Rattle.eu_book.proofs.PeerLemmas.{told_all}
use Rattle.eu_book.proofs.serving.step_and_tell.Goals as goal

pub returns-in_err-reserve-clause-refused : goal.returns-in_err-reserve-clause-refused
returns-in_err-reserve-clause-refused g c =
    let p = err_from_is_err_and c.from_residual.result c.from_residual.ensures.1 in
    rw p.1 (inl p.2)

pub returns-in_err-keys-clause-refused : goal.returns-in_err-keys-clause-refused
returns-in_err-keys-clause-refused g c =
    let p = err_from_is_err_and c.from_residual-in_err-keys.result c.from_residual-in_err-keys.ensures.1 in
    rw p.1 (inl p.2)

pub returns-in_err-stepped-clause-refused : goal.returns-in_err-stepped-clause-refused
returns-in_err-stepped-clause-refused g c =
    let p = err_from_is_err_and c.from_residual-in_err-stepped.result c.from_residual-in_err-stepped.ensures.1 in
    rw (p.1, p.2) (inr (registry_refuses c.args.registry.now (queues_of c.args.peers.now) c.args.command.now c.args.moment c.in_err-stepped.field-0.0 c.requires.kind c.in_err-stepped.ensures.refused))

pub returns-clause-answers : goal.returns-clause-answers
returns-clause-answers g c =
    let acts = c.in_ok-stepped.ensures.ok.acts in
    let reply = c.in_ok-stepped.stepped.answered.reply in
    let new = c.step.new.self in
    let command = c.args.command.now in
    let held = acts.held_are ∙ ap (λ n. copies_of n (instance_held new command)) (c.count-count.ensures ∙ sym c.in_ok-reserve.ensures.count) in
    let queues = c.tell.ensures (instance_held new command) held
    ∙ (λ i. map (with_task (task_for command c.args.moment reply (instance_held new command))) (c.in_ok-reserve.ensures.queues i)) in
    told_all c.args.registry.now c.args.peers.now c.tell.new.self command c.args.moment reply new c.requires.kind acts.answers queues
