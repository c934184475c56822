use Rattle.std.proofs.Common.{◌≤◌, sym, subst, arith}
use Rattle.std.specs.FinMap.{len}
use Rattle.eu_model.specs.Plain.{Plain}
use Rattle.eu_audit.proofs.LimitLemmas.{pass_limits}
use Rattle.eu_audit.proofs.registry.Replica.without.Goals as goal

pub invariant_of-result : goal.invariant_of-result
invariant_of-result c =
    let r = c.self.inside in
    let before : Plain = record {
      config = r.config;
      leases = r.leases;
      overrides = r.overrides;
      expected = r.expected;
      last = r.last;
      since = r.since;
      previous = r.previous;
    } in
    let limits = pass_limits before c.args.moment c.args.victims.now c.self.invariant in
    record {
      leases = subst (λ m. len m ≤ 65536) (sym (c.take_all.ensures.leases c.if-not-take_all.false)) limits.leases;
      expected = omega (arith, c.saturating_sub.ensures, limits.expected);
      since = limits.since;
    }
