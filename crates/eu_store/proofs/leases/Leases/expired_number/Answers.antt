use Rattle.std.proofs.Common.{◌-◌, length, ap, subst, ◌∙◌, arith}
use Rattle.eu_deadlines.specs.Indexed.{AreBefore}
use Rattle.eu_store.specs.Stored.{expired_keys, deadlines}
use Rattle.eu_store.proofs.MapLemmas.{expired_many}
use Rattle.eu_store.proofs.leases.Leases.expired_number.Goals as goal

pub returns : goal.returns
returns c =
    let es = c.self.inside.table.entries in
    let found = c.in_ok-places.places.items in
    let before = subst (λ l. AreBefore l c.saturating_sub-limit.result found) c.self.invariant.1 c.in_ok-places.ensures.found in
    let late = subst (λ n. AreBefore (deadlines es) n found) (c.saturating_sub-limit.ensures ∙ ap (λ m. m - c.args.extra) c.ms.ensures.value) before in
    let many = expired_many c.args.moment c.args.extra es found c.as_slice-entries.ensures.unique late in
    let seen = ap (λ s. length (expired_keys s.held c.args.moment c.args.extra)) c.self.view_is in
    omega (arith, c.len.ensures, many, seen)
