use Rattle.std.proofs.Common.{ap, sym, ◌∙◌}
use Rattle.eu_model.specs.Server.{live}
use Rattle.eu_outbox.specs.Steps.{task_shown}
use Rattle.eu_outbox.proofs.TaskLemmas.{live-one}
use Rattle.eu_outbox.proofs.EntryLemmas.{one_at, none_at}
use Rattle.eu_outbox.proofs.waiting.Line.live_at.Goals as goal

pub returns-in_default : goal.returns-in_default
returns-in_default c = sym (ap (live c.args.moment) (none_at c.args.self.now.tasks c.args.place (sym c.in_default.ensures)))

pub returns-then-is_old : goal.returns-then-is_old
returns-then-is_old c =
    let task = task_shown (c.in-Some.name, c.in-Some.waiting) in
    sym (ap (live c.args.moment) (one_at c.args.self.now.tasks c.args.place task (sym c.in-Some.ensures)) ∙ live-one c.args.moment task _ (sym c.is_old.ensures ∙ c.if-is_old.true))

pub returns : goal.returns
returns c =
    let task = task_shown (c.in-Some.name, c.in-Some.waiting) in
    sym (ap (live c.args.moment) (one_at c.args.self.now.tasks c.args.place task (sym c.in-Some.ensures)) ∙ live-one c.args.moment task _ (sym c.is_old.ensures ∙ c.if-is_old.false))
