use Rattle.std.proofs.Common.{◌≡◌, ◌+◌, ◌∷◌, ◌++◌, [], suc, drop, sym, ap, ◌∙◌, arith}
use Rattle.std.proofs.Math.Seq.{drop-cons}
use Rattle.std.proofs.lemmas.List.{append_assoc}
use Rattle.std.specs.List.{list_all}
use Rattle.std.specs.Prelude.{◌&&◌}
use Rattle.eu_audit_queue.specs.PlainQueue.{is_plain_queue}
use Rattle.eu_audit.proofs.PlainLemmas.{read_plain}
use Rattle.eu_audit.proofs.plain.read_queues.Goals as goal

pub loop-queue-preserved : goal.loop-queue-preserved
loop-queue-preserved c =
    let queues = c.args.queues.now in
    let i = c.loop-queue.queue-index in
    let rest = drop (i + 1) queues in
    let one : suc i ≡ i + 1 = omega arith in
    let q = c.queue-item.result in
    let here = drop-cons queues i q c.loop-queue-test.true ∙ (λ j. sym c.queue-item.is j ∷ drop (one j) queues) in
    let read = read_plain q c.in-Some.queue (sym c.in_ok-queue.ensures ∙ c.in-Some.is) in
    record {
      read = ap (λ qs. qs ++ rest) (c.in_ok-push.ensures.items ∙ ap (λ x. c.loop-queue.read.items ++ x ∷ []) read.1)
          ∙ append_assoc c.loop-queue.read.items (q ∷ []) rest ∙ ap (λ qs. c.loop-queue.read.items ++ qs) (sym here) ∙ c.loop-queue.invariant.read;
      plain = ap (λ b. b && list_all is_plain_queue rest) (sym read.0) ∙ ap (list_all is_plain_queue) (sym here) ∙ c.loop-queue.invariant.plain;
    }
