use Rattle.std.proofs.Common.{◌≡◌, None, ◌∙◌, ap, arith, subst, sym}
use Rattle.std.specs.Prelude.{◌==◌, Ok, length}
use Rattle.eu_base.specs.Limits.{most_entries}
use Rattle.eu_base.specs.declared.faults.Fault.TheVariants.{OutOfMemory}
use Rattle.eu_core.specs.Stepped.{Chooses}
use Rattle.eu_model.specs.Answers.{ServerAnswers}
use Rattle.eu_book.specs.Account.{Applies, IsKept, Refuses, entry, grown, known_fault, ready}
use Rattle.eu_book.specs.Checkpoint.{account_with, begun, HasRoom}
use Rattle.eu_book.specs.Peers.{server_with}
use Rattle.eu_book.proofs.BookLemmas.{sums_fit, kept_entered, entered, entered_paired, is_refused}
use Rattle.eu_book.proofs.book.Book.enter.Goals as goal

pub note-requires-clause-room : goal.note-requires-clause-room
note-requires-clause-room g c =
    let long : c.len-begins_anew.result ≡ length c.self.inside.journal.entries.items = omega (arith, c.len-begins_anew.ensures, c.self.inside.journal.entries.ok.0) in
    subst (λ b. HasRoom (begun b c.answer.new.spare c.answer.new.journal)) (sym (ap (λ n. n == most_entries) long)) c.in-Ok.ensures.room

pub note-requires-clause-steps : goal.note-requires-clause-steps
note-requires-clause-steps g c = omega (arith, c.self.invariant.1.steps)

pub note-requires-clause-counted : goal.note-requires-clause-counted
note-requires-clause-counted g c =
    omega (arith, (sums_fit _ c.self.invariant.1 c.args.command c.args.moment c.in-Ok.stepped.answered.reply (server_with c.answer.new.registry c.answer.new.peers) c.in-Ok.ensures.answers).0)

pub note-requires-clause-added : goal.note-requires-clause-added
note-requires-clause-added g c =
    omega (arith, (sums_fit _ c.self.invariant.1 c.args.command c.args.moment c.in-Ok.stepped.answered.reply (server_with c.answer.new.registry c.answer.new.peers) c.in-Ok.ensures.answers).1)

pub note-requires-clause-removed : goal.note-requires-clause-removed
note-requires-clause-removed g c =
    omega (arith, (sums_fit _ c.self.invariant.1 c.args.command c.args.moment c.in-Ok.stepped.answered.reply (server_with c.answer.new.registry c.answer.new.peers) c.in-Ok.ensures.answers).2)

pub returns-in-Err-clause-refused : goal.returns-in-Err-clause-refused
returns-in-Err-clause-refused g c =
    let b = c.self.inside in
    let a = account_with b.journal b.totals b.registry b.peers in
    subst (λ x. Refuses x c.args.command c.args.moment c.in-Err.fault) c.self.view_is (is_refused a c.args.command c.args.moment c.in-Err.fault c.in-Err.ensures.refused)

pub returns-in-Err-clause-memory : goal.returns-in-Err-clause-memory
returns-in-Err-clause-memory g c =
    subst (λ x. c.in-Err.fault ≡ OutOfMemory → known_fault x.totals.steps x.state.queues c.args.command c.args.moment ≡ None) c.self.view_is c.in-Err.ensures.memory

pub invariant_of-self : goal.invariant_of-self
invariant_of-self g c =
    let b = c.self.inside in
    let a = account_with b.journal b.totals b.registry b.peers in
    let kept = c.self.invariant.1 in
    let stepped = c.in-Ok.stepped in
    let anew = c.len-begins_anew.result == most_entries in
    let long : c.len-begins_anew.result ≡ length b.journal.entries.items = omega (arith, c.len-begins_anew.ensures, b.journal.entries.ok.0) in
    let full = ap (λ n. n == most_entries) long in
    let is = c.in-Ok.ensures in
    let noted = c.note.ensures in
    let new = server_with c.answer.new.registry c.answer.new.peers in
    let reply = stepped.answered.reply in
    let e = entry c.args.pass b.totals.steps c.args.command c.args.moment reply in
    let whole = entered b.journal c.answer.new.journal c.note.new.journal b.totals b.registry b.peers c.answer.new.spare anew e stepped.undo c.self.invariant.0 is.journal full (λ t. is.next (sym full ∙ t)) noted.entries noted.undos
    c.note.new.totals c.answer.new.registry c.answer.new.peers noted.first noted.queues noted.totals is.undo in (
      entered_paired b.journal c.answer.new.journal c.note.new.journal b.totals b.registry b.peers c.answer.new.spare anew e stepped.undo c.self.invariant.0 is.journal full (λ t. is.next (sym full ∙ t)) noted.entries noted.undos,
      subst IsKept (sym whole) (kept_entered a kept c.args.pass c.args.command c.args.moment reply new is.counts is.answers),
    )

pub returns-in-Ok-clause-applied : goal.returns-in-Ok-clause-applied
returns-in-Ok-clause-applied g c =
    let b = c.self.inside in
    let a = account_with b.journal b.totals b.registry b.peers in
    let kept = c.self.invariant.1 in
    let stepped = c.in-Ok.stepped in
    let anew = c.len-begins_anew.result == most_entries in
    let long : c.len-begins_anew.result ≡ length b.journal.entries.items = omega (arith, c.len-begins_anew.ensures, b.journal.entries.ok.0) in
    let full = ap (λ n. n == most_entries) long in
    let is = c.in-Ok.ensures in
    let noted = c.note.ensures in
    let new = server_with c.answer.new.registry c.answer.new.peers in
    let reply = stepped.answered.reply in
    let e = entry c.args.pass b.totals.steps c.args.command c.args.moment reply in
    let whole = entered b.journal c.answer.new.journal c.note.new.journal b.totals b.registry b.peers c.answer.new.spare anew e stepped.undo c.self.invariant.0 is.journal full (λ t. is.next (sym full ∙ t)) noted.entries noted.undos
    c.note.new.totals c.answer.new.registry c.answer.new.peers noted.first noted.queues noted.totals is.undo in
    let after = account_with c.note.new.journal c.note.new.totals c.answer.new.registry c.answer.new.peers in
    let told = noted.told in
    let applies : Applies g.C.Chooser.asks a c.args.chooser.now (entry c.args.pass c.note.result.receipt.number c.args.command c.args.moment c.note.result.receipt.reply) after c.answer.new.chooser = record {
      counts = omega (arith, kept.steps, is.counts);
      numbered = noted.number;
      step = subst (λ r. ServerAnswers a.state c.args.command c.args.moment (Ok r) new) (sym told) is.answers;
      chooses = subst (λ r. Chooses g.C.Chooser.asks a.state.registry c.args.chooser.now c.args.command c.args.moment r c.answer.new.chooser) (sym told) is.chooses;
      whole = whole ∙ (λ i. grown (ready a) (entry c.args.pass (sym noted.number i) c.args.command c.args.moment (sym told i)) new);
    } in
    subst (λ x. Applies g.C.Chooser.asks x c.args.chooser.now (entry c.args.pass c.note.result.receipt.number c.args.command c.args.moment c.note.result.receipt.reply) after c.answer.new.chooser) c.self.view_is applies
