use Rattle.std.proofs.Common.{◌≡◌, ◌≤◌, true, false, length, map, ap, sym, subst, ◌∙◌}
use Rattle.eu_model.specs.Server.{bounded, put, waits}
use Rattle.eu_outbox.specs.Steps.{IsApart, task_of}
use Rattle.eu_outbox.proofs.TaskLemmas.{IsApart-placed, put-there, bounded-placed}
use Rattle.eu_outbox.proofs.EntryLemmas.{found, found_older, placed_older, placed_newer}
use Rattle.eu_outbox.proofs.waiting.Line.put.Goals as goal

pub invariant_of-self : goal.invariant_of-self
invariant_of-self c =
    let task = task_of (c.args.name, c.args.waiting) in
    let there : waits task (map task_of c.self.inside.older.entries) ≡ true = sym (found c.args.name c.self.inside.older.entries) ∙ sym c.contains_key.ensures ∙ c.if-contains_key.true in
    subst IsApart (sym (placed_older task c.self.inside.older.entries c.self.inside.newer.entries c.insert.new.entries.entries c.self.invariant c.insert.ensures.tasks there)) (IsApart-placed task _ c.self.invariant)

pub returns-then-contains_key-clause-tasks : goal.returns-then-contains_key-clause-tasks
returns-then-contains_key-clause-tasks c =
    let task = task_of (c.args.name, c.args.waiting) in
    let there : waits task (map task_of c.self.inside.older.entries) ≡ true = sym (found c.args.name c.self.inside.older.entries) ∙ sym c.contains_key.ensures ∙ c.if-contains_key.true in
    placed_older task c.self.inside.older.entries c.self.inside.newer.entries c.insert.new.entries.entries c.self.invariant c.insert.ensures.tasks there
    ∙ put-there task _ (found_older c.args.name c.self.inside.older.entries c.self.inside.newer.entries (sym c.contains_key.ensures ∙ c.if-contains_key.true))
    ∙ ap (λ s. put task s.tasks) c.self.view_is

pub invariant_of-self-2 : goal.invariant_of-self-2
invariant_of-self-2 c =
    let task = task_of (c.args.name, c.args.waiting) in
    let none : waits task (map task_of c.self.inside.older.entries) ≡ false = sym (found c.args.name c.self.inside.older.entries) ∙ sym c.contains_key.ensures ∙ c.if-contains_key.false in
    subst IsApart (sym (placed_newer task c.self.inside.older.entries c.self.inside.newer.entries c.insert-2.new.entries.entries c.insert-2.ensures.tasks none)) (IsApart-placed task _ c.self.invariant)

pub returns-clause-tasks : goal.returns-clause-tasks
returns-clause-tasks c =
    let task = task_of (c.args.name, c.args.waiting) in
    let none : waits task (map task_of c.self.inside.older.entries) ≡ false = sym (found c.args.name c.self.inside.older.entries) ∙ sym c.contains_key.ensures ∙ c.if-contains_key.false in
    c.bound.ensures.tasks
    ∙ ap bounded (placed_newer task c.self.inside.older.entries c.self.inside.newer.entries c.insert-2.new.entries.entries c.insert-2.ensures.tasks none)
    ∙ bounded-placed task _ (subst (λ s. length s.tasks ≤ 10000) (sym c.self.view_is) c.requires.few)
    ∙ ap (λ s. put task s.tasks) c.self.view_is
