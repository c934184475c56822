use Rattle.std.proofs.Common.{◌+◌, ◌<◌, ◌≤◌, sym, ◌∙◌, arith}
use Rattle.std.proofs.lemmas.Bool.{not-true, not-false, ltb-false, ltb-true}
use Rattle.eu_audit_queue.proofs.NoteLemmas.{first_before}
use Rattle.eu_audit_queue.proofs.ages.pop_old.Goals as goal

pub returns-then-is_recent-clause-none : goal.returns-then-is_recent-clause-none
returns-then-is_recent-clause-none c = λ note there.
    let first = c.in_ok-first.first.now in
    let recent : c.args.moment ≤ first.queued + 30000 = ltb-false _ _ (not-true _ (sym c.is_recent.ensures ∙ c.if-is_recent.true)) in
    omega (arith, recent, first_before first note (c.in_ok-first.ensures.least note there))

pub returns-clause-old : goal.returns-clause-old
returns-clause-old c =
    let first = c.in_ok-first.first.now in
    let note = c.in_ok-note.note in
    let old : first.queued + 30000 < c.args.moment = ltb-true _ _ (not-false _ (sym c.is_recent.ensures ∙ c.if-is_recent.false)) in
    let least : note.queued ≤ first.queued = first_before note first (c.in_ok-note.ensures.least first c.in_ok-first.ensures.member) in
    let before : note.queued + 30000 < c.args.moment = omega (arith, old, least) in
    (note.queued, before, c.in_ok-note.ensures.updates)
