use Rattle.std.proofs.Common.{refl, ap, sym, ◌∙◌}
use Rattle.std.specs.Option.{option_copied}
use Rattle.eu_core.specs.Decided.{counted}
use Rattle.eu_core.proofs.RowLemmas.{same_row}
use Rattle.eu_core.proofs.UndoLemmas.{lease_left_undone, renewal_left}
use Rattle.eu_core.proofs.registry.Registry.lease_before.Goals as goal

pub returns-in-Some : goal.returns-in-Some
returns-in-Some c = λ d key.
    let a = c.args in
    let l = c.in-Some.held.now in
    let found = sym c.requires.held ∙ ap option_copied c.in-Some.is in
    let same = same_row a.change.now.row a.row c.if-eq.ensures in
    let after = c.if-keeps.ensures refl l (sym c.instance.ensures) in
    renewal_left a.self.now a.key.now a.change.now d _ l after.0 a.row key found c.requires.row after.1 after.2 same
    (c.if-change-expected.true ∙ c.expected.ensures.value ∙ ap (λ p. p.expected) c.self.view_is) c.lease.ensures (ap counted c.self.view_is)

pub returns-in_ok-shared-in_default : goal.returns-in_ok-shared-in_default
returns-in_ok-shared-in_default c = λ d key.
    let a = c.args in
    lease_left_undone a.self.now a.key.now a.change.now d _ (option_copied a.held) a.row key c.requires.held c.requires.row
    c.in_ok-shared-in_default.ensures refl (c.new.ensures ∙ c.expected-in_default.ensures.value ∙ ap (λ p. p.expected) c.self.view_is) (ap counted c.self.view_is)
