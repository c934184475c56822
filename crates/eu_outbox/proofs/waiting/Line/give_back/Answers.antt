use Rattle.std.proofs.Common.{◌≡◌, ◌||◌, false, cond, ◌∷◌, ap, sym, subst, ◌∙◌}
use Rattle.eu_model.specs.Server.{waits}
use Rattle.eu_outbox.specs.Steps.{IsApart, gave, in_line, task_of}
use Rattle.eu_outbox.proofs.EntryLemmas.{before_line}
use Rattle.eu_outbox.proofs.waiting.Line.give_back.Goals as goal

pub invariant_of-self : goal.invariant_of-self
invariant_of-self c =
    let task = task_of c.parts-name.result in
    let none : waits task (in_line c.self.inside.older.entries c.self.inside.newer.entries) ≡ false =
    ap (λ s. waits task s.tasks) c.self.view_is ∙ sym c.has.ensures ∙ c.if-has.false in
    subst IsApart (sym (before_line task c.self.inside.older.entries c.self.inside.newer.entries c.insert.new.entries.entries c.insert.ensures.tasks none)) (none, c.self.invariant)

pub returns-clause-tasks : goal.returns-clause-tasks
returns-clause-tasks c =
    let task = task_of c.parts-name.result in
    let there : waits task c.args.self.now.tasks ≡ false = sym c.has.ensures ∙ c.if-has.false in
    let none : waits task (in_line c.self.inside.older.entries c.self.inside.newer.entries) ≡ false = ap (λ s. waits task s.tasks) c.self.view_is ∙ there in
    before_line task c.self.inside.older.entries c.self.inside.newer.entries c.insert.new.entries.entries c.insert.ensures.tasks none
    ∙ ap (λ s. task ∷ s.tasks) c.self.view_is
    ∙ sym ((λ i. cond ((sym c.is_old.ensures ∙ c.if-is_old.false) i || there i) c.args.self.now.tasks (task ∷ c.args.self.now.tasks)))
    ∙ ap (λ x. gave c.args.moment x c.args.self.now.tasks) c.parts-name.ensures
