use Rattle.std.proofs.Common.{sym, ◌∙◌}
use Rattle.eu_outbox.specs.Steps.{task_shown}
use Rattle.eu_outbox.proofs.TaskLemmas.{live-none}
use Rattle.eu_outbox.proofs.EntryLemmas.{none_shown}
use Rattle.eu_outbox.proofs.waiting.Line.any_live.Goals as goal

pub loop-place-preserved : goal.loop-place-preserved
loop-place-preserved c =
    live-none c.args.moment c.loop-place.place c.args.self.now.tasks (sym c.live_at.ensures ∙ none_shown task_shown c.live_at.result c.if-is_some.ensures) c.loop-place.invariant
