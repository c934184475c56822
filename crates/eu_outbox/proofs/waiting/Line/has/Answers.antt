use Rattle.std.proofs.Common.{sym, ap, ◌∙◌}
use Rattle.std.specs.List.{list_any}
use Rattle.eu_outbox.specs.Steps.{named}
use Rattle.eu_outbox.proofs.EntryLemmas.{found_older, found_newer}
use Rattle.eu_outbox.proofs.waiting.Line.has.Goals as goal

pub returns-then-contains_key : goal.returns-then-contains_key
returns-then-contains_key c =
    let there = sym c.contains_key.ensures ∙ c.if-contains_key.true in
    c.if-contains_key.true ∙ sym (found_older c.args.name.now c.self.inside.older.entries c.self.inside.newer.entries there) ∙ ap (λ s. list_any (named c.args.name.now) s.tasks) c.self.view_is

pub returns-else-contains_key : goal.returns-else-contains_key
returns-else-contains_key c =
    let none = sym c.contains_key.ensures ∙ c.if-contains_key.false in
    c.contains_key-else-contains_key.ensures
    ∙ sym (found_newer c.args.name.now c.self.inside.older.entries c.self.inside.newer.entries none)
    ∙ ap (λ s. list_any (named c.args.name.now) s.tasks) c.self.view_is
