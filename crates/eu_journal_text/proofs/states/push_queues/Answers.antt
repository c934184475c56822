use Rattle.std.proofs.Common.{refl}
use Rattle.std.specs.List.{AllByRecursion}
use Rattle.eu_journal_text.specs.Text.{IsReadBack, queue_lines, queues_lines}
use Rattle.eu_journal_text.proofs.PutLemmas.{all_next, put_next}
use Rattle.eu_journal_text.proofs.states.push_queues.Goals as goal

pub loop-queue-preserved : goal.loop-queue-preserved
loop-queue-preserved c = record {
  text = put_next queue_lines queues_lines (λ y ys. refl) c.args.queues.now c.loop-queue.queue-index c.queue-item.result _ _ _ c.queue-item.is c.loop-queue-test.true c.loop-queue.invariant.text c.in_ok-push_queue.ensures.text;
  back = all_next queue_lines queues_lines (λ y ys. refl) IsReadBack (AllByRecursion IsReadBack (queues_lines c.args.queues.now)) c.args.queues.now c.loop-queue.queue-index c.queue-item.result c.queue-item.is c.loop-queue-test.true c.loop-queue.invariant.back c.in_ok-push_queue.ensures.back;
}
