use Rattle.std.proofs.Common.{◌≡◌, drop, map}
use Rattle.eu_model.specs.Machine.{without}
use Rattle.eu_audit.specs.Victims.{takes}
use Rattle.eu_audit.proofs.evictions.take_all.Given as goal

-- what is left leads to the whole
abbrev pub invariant-loop-victim : goal.invariant-loop-victim
invariant-loop-victim l = record {
  taken : takes l.leases l.moment l.extra (drop l.victim-index l.victims) ≡ takes l.fn.leases l.moment l.extra l.fn.victims;
  leases : without l.leases (drop l.victim-index l.victims) ≡ without l.fn.leases l.fn.victims;
  overrides : without l.overrides (map (λ k. k.id) (drop l.victim-index l.victims)) ≡ without l.fn.overrides (map (λ k. k.id) l.fn.victims);
}
