use Rattle.std.proofs.Common.{◌≡◌, ℕ, List, length, sym, ap, subst, ◌∙◌, arith, IsTrue, true≢false}
use Rattle.std.specs.Slice.Iter.{iter_rest}
use Rattle.eu_base.specs.declared.statuses.Status.{Status}
use Rattle.eu_base.proofs.KeyLemmas.{names_total, names_exact}
use Rattle.eu_audit_tables.proofs.MapLemmas.{shown}
use Rattle.eu_audit_tables.proofs.WalkLemmas.{no_entry, over}
use Rattle.eu_audit_tables.proofs.overrides.Overrides.same.Goals as goal

pub returns-in_default : goal.returns-in_default
returns-in_default c = (
  (λ t. absurd (true≢false (sym t))),
  (λ e.
      let first = shown names_total names_exact c.args.self.now c.self.inside.table.entries c.into_iter-id-iterator.result c.self.view_is c.iter-id-items.ensures.ordered (c.into_iter-id-iterator.ensures.into_iter_gives ∙ c.iter-id-items.ensures.rest) in
      let left = c.loop-id.invariant.same.1 (sym first ∙ e) in
      absurd (omega (arith, ap length left, ap length c.in-Some.ensures.steps, c.in_default.ensures.steps.0))),
)

pub returns-then-not-is_row : goal.returns-then-not-is_row
returns-then-not-is_row c = (
  (λ t. absurd (true≢false (sym t))),
  (λ e.
      let first = shown names_total names_exact c.args.self.now c.self.inside.table.entries c.into_iter-id-iterator.result c.self.view_is c.iter-id-items.ensures.ordered (c.into_iter-id-iterator.ensures.into_iter_gives ∙ c.iter-id-items.ensures.rest) in
      let left = sym c.in-Some.ensures.steps ∙ c.loop-id.invariant.same.1 (sym first ∙ e) ∙ c.in-Some-next.ensures.steps in
      let row : ◌≡◌ {A = List ℕ × Status} (c.in-Some.id.now, c.in-Some.status.now) c.in-Some-next.row.now = cc in
      subst IsTrue c.if-not-is_row.true (c.is_row.ensures.1 row)),
)

pub returns : goal.returns
returns c =
    let first = shown names_total names_exact c.args.self.now c.self.inside.table.entries c.into_iter-id-iterator.result c.self.view_is c.iter-id-items.ensures.ordered (c.into_iter-id-iterator.ensures.into_iter_gives ∙ c.iter-id-items.ensures.rest) in
    let end = over c.loop-id.left c.next-2.new.self c.next-2.result c.is_none.result c.next-2.ensures.steps c.is_none.ensures in (
      (λ t. first ∙ c.loop-id.invariant.same.0 (c.in-None.ensures.steps.0 ∙ sym (no_entry (iter_rest c.loop-id.left) (end.0 t)))),
      (λ e. end.1 (ap length (sym (c.loop-id.invariant.same.1 (sym first ∙ e)) ∙ c.in-None.ensures.steps.0))),
    )
