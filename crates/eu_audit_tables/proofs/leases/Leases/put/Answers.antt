use Rattle.std.proofs.Common.{◌≡◌, ◌+◌, None, sym, ap, ◌∙◌, arith}
use Rattle.std.specs.FinMap as map
use Rattle.std.specs.Map.{lookup}
use Rattle.std.specs.BTreeMap.{is_at}
use Rattle.eu_base.specs.Values.{key_cmp}
use Rattle.eu_base.proofs.KeyLemmas.{keys_total, keys_exact}
use Rattle.eu_audit_tables.specs.Counted.{held_before, one_before, deadline_of}
use Rattle.eu_audit_tables.proofs.MapLemmas.{at_no_err, get_at, get_removed, inserted, insert-remove}
use Rattle.eu_audit_tables.proofs.CountLemmas.{held_before-insert, held_before-grows, one_before-this, one_before-next}
use Rattle.eu_audit_tables.proofs.leases.Leases.put.Goals as goal

pub take-requires : goal.take-requires
take-requires c =
    let deadline = c.deadline_of-deadline.result in
    let this = c.in_ok-add.ensures.ok deadline in
    let next = c.in_ok-add.ensures.ok (deadline + 1) in
    omega (arith, this, next, one_before-this deadline, one_before-next deadline, c.self.invariant deadline, c.self.invariant (deadline + 1), held_before-grows c.self.inside.table.entries deadline)

pub invariant_of-self-else-is_err : goal.invariant_of-self-else-is_err
invariant_of-self-else-is_err c = λ limit.
    let es = c.self.inside.table.entries in
    let gone : lookup (is_at (key_cmp c.args.key)) es ≡ None =
    sym (get_at keys_total es c.args.key) ∙ ap (λ m. map.get m c.args.key) (c.self.view_is ∙ c.remove.ensures) ∙ get_removed keys_total c.args.self.now c.args.key in
    let held : held_before c.insert-put.new.self.entries limit ≡ held_before es limit + one_before (deadline_of c.args.lease) limit =
    ap (λ fs. held_before fs limit) (at_no_err c.insert-put.result _ c.insert-put.ensures.entries c.if-is_err.ensures.value)
    ∙ held_before-insert es c.args.key c.args.lease limit c.len-held.ensures.ordered gone in
    omega (arith, held, c.in_ok-add.ensures.ok limit, c.self.invariant limit, ap (λ d. one_before d limit) c.deadline_of-deadline.ensures)

pub returns-clause-ok : goal.returns-clause-ok
returns-clause-ok c =
    inserted keys_total keys_exact c.self.inside.table.entries c.insert-put.new.self.entries c.args.key c.args.lease (at_no_err c.insert-put.result _ c.insert-put.ensures.updates c.if-is_err.ensures.value).0
    ∙ ap (λ m. map.insert m c.args.key c.args.lease) (c.self.view_is ∙ c.remove.ensures)
    ∙ insert-remove keys_total keys_exact c.args.self.now c.args.key c.args.lease
