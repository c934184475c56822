use Rattle.std.proofs.Common.{ap, sym, subst, ◌∙◌, not}
use Rattle.eu_model.specs.Server.{is_old, live}
use Rattle.eu_outbox.specs.Steps.{IsApart}
use Rattle.eu_outbox.proofs.TaskLemmas.{IsApart-filter}
use Rattle.eu_outbox.proofs.EntryLemmas.{live_line}
use Rattle.eu_outbox.proofs.waiting.Line.keep_live.Goals as goal

pub invariant_of-self : goal.invariant_of-self
invariant_of-self c =
    let kept = live_line c.args.moment c.self.inside.older.entries c.self.inside.newer.entries c.keep_live.new.entries.entries c.keep_live-2.new.entries.entries c.keep_live.ensures c.keep_live-2.ensures in
    subst IsApart (sym kept) (IsApart-filter (λ task. not (is_old c.args.moment task)) _ c.self.invariant)

pub returns-clause-tasks : goal.returns-clause-tasks
returns-clause-tasks c =
    live_line c.args.moment c.self.inside.older.entries c.self.inside.newer.entries c.keep_live.new.entries.entries c.keep_live-2.new.entries.entries c.keep_live.ensures c.keep_live-2.ensures
    ∙ ap (λ s. live c.args.moment s.tasks) c.self.view_is

pub returns-clause-apart : goal.returns-clause-apart
returns-clause-apart c = invariant_of-self c
