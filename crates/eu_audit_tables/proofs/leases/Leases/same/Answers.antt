use Rattle.std.proofs.Common.{◌≡◌, length, map as all, sym, ap, subst, ◌∙◌, arith, IsTrue, true≢false}
use Rattle.std.specs.Slice.Iter.{iter_rest}
use Rattle.std.proofs.lemmas.List.{length-map}
use Rattle.eu_base.specs.declared.names.Key.{Key}
use Rattle.eu_model.specs.declared.views.Listed.{Listed}
use Rattle.eu_base.proofs.KeyLemmas.{keys_total, keys_exact}
use Rattle.eu_audit_tables.proofs.MapLemmas.{shown}
use Rattle.eu_audit_tables.proofs.WalkLemmas.{no_entry, over}
use Rattle.eu_audit_tables.proofs.leases.Leases.same.Goals as goal

-- a lease under its instance's key
abbrev keyed : Listed → Key × Listed
keyed l = (l.instance.key, l)

pub returns-in_default : goal.returns-in_default
returns-in_default c = (
  (λ t. absurd (true≢false (sym t))),
  (λ e.
      let first = shown keys_total keys_exact c.args.self.now c.self.inside.table.entries c.into_iter-key-iterator.result c.self.view_is c.iter-key-items.ensures.ordered (c.into_iter-key-iterator.ensures.into_iter_gives ∙ c.iter-key-items.ensures.rest) in
      let left = c.loop-key.invariant.same.1 (sym first ∙ e) in
      absurd (omega (arith, ap length left, ap length c.in-Some.ensures.steps, length-map (iter_rest c.loop-key.left) keyed, c.in_default.ensures.steps.0))),
)

pub returns-then-not-is_held : goal.returns-then-not-is_held
returns-then-not-is_held c = (
  (λ t. absurd (true≢false (sym t))),
  (λ e.
      let first = shown keys_total keys_exact c.args.self.now c.self.inside.table.entries c.into_iter-key-iterator.result c.self.view_is c.iter-key-items.ensures.ordered (c.into_iter-key-iterator.ensures.into_iter_gives ∙ c.iter-key-items.ensures.rest) in
      let left = sym c.in-Some.ensures.steps ∙ c.loop-key.invariant.same.1 (sym first ∙ e) ∙ ap (all keyed) c.in-Some-next.ensures.steps in
      let row : ◌≡◌ {A = Key × Listed} (c.in-Some.key.now, c.in-Some.held.now) (keyed c.in-Some-next.lease.now) = cc in
      subst IsTrue c.if-not-is_held.true (c.is_held.ensures.1 (ap (λ p. p.0) row, ap (λ p. p.1) row))),
)

pub returns : goal.returns
returns c =
    let first = shown keys_total keys_exact c.args.self.now c.self.inside.table.entries c.into_iter-key-iterator.result c.self.view_is c.iter-key-items.ensures.ordered (c.into_iter-key-iterator.ensures.into_iter_gives ∙ c.iter-key-items.ensures.rest) in
    let end = over c.loop-key.left c.next-2.new.self c.next-2.result c.is_none.result c.next-2.ensures.steps c.is_none.ensures in (
      (λ t. first ∙ c.loop-key.invariant.same.0 (c.in-None.ensures.steps.0 ∙ ap (all keyed) (sym (no_entry (iter_rest c.loop-key.left) (end.0 t))))),
      (λ e. end.1 (sym (length-map (iter_rest c.loop-key.left) keyed) ∙ ap length (sym (c.loop-key.invariant.same.1 (sym first ∙ e)) ∙ c.in-None.ensures.steps.0))),
    )
