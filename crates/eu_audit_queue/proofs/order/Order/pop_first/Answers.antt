use Rattle.std.proofs.Common.{◌≡◌, false, slice_get, IfSome, ap, sym, subst}
use Rattle.std.specs.Map.{values_of}
use Rattle.eu_audit_queue.specs.Names.{has_name}
use Rattle.eu_audit_queue.proofs.LineLemmas.{first_apart}
use Rattle.eu_audit_queue.proofs.order.Order.pop_first.Goals as goal

pub returns-clause-apart : goal.returns-clause-apart
returns-clause-apart c =
    let old = c.self.inside.tasks.entries in
    let left = c.pop_mru.new.self.entries in
    subst (λ first. IfSome first (λ f. has_name f.0 (values_of left) ≡ false)) (sym c.pop_mru.ensures.value)
    (subst (λ es. IfSome (slice_get old 0) (λ f. has_name f.0 (values_of es) ≡ false)) (sym (ap (λ a. a.entries) c.pop_mru.ensures.entries)) (first_apart old c.self.invariant.0 c.self.invariant.1))
