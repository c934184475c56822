use Rattle.std.proofs.Common.{◌≡◌, ◌≤◌, true, not, filter, length, drop, ◌++◌, ap, sym, ◌∙◌, arith}
use Rattle.eu_model.specs.Server.{is_old, live, waits}
use Rattle.eu_audit_queue.specs.PlainQueue.{are_apart}
use Rattle.eu_audit_queue.proofs.ApartLemmas.{apart_back, apart_filter}
use Rattle.eu_audit_queue.proofs.waiting.Waiting.give_back.Goals as goal

pub push_all_first-requires-clause-apart : goal.push_all_first-requires-clause-apart
push_all_first-requires-clause-apart c =
    let old = c.args.self.now in
    let young = live c.args.moment c.args.batch.now in
    let back = filter (λ task. not (waits task old)) young in
    let surplus = c.saturating_sub-surplus.result in
    let few : surplus ≤ length back = omega (arith, c.saturating_sub-surplus.ensures, c.len.ensures, c.len-2.ensures.value, c.len-2.ensures.few, ap length c.in_ok-tasks.ensures) in
    let alive : are_apart young ≡ true = apart_filter (λ task. not (is_old c.args.moment task)) c.args.batch.now c.requires in
    let waiting : are_apart old ≡ true = ap are_apart (sym c.self.view_is) ∙ c.len-2.ensures.apart in
    ap (λ l. are_apart (l ++ old)) (c.in_ok-kept.ensures.tail ∙ ap (drop surplus) c.in_ok-tasks.ensures) ∙ apart_back surplus young old few alive waiting
