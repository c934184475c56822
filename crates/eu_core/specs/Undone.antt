-- What was before a step, by its command and what it replaced
use Rattle.std.specs.Prelude.{map, Option, Some, None}
use Rattle.eu_base.specs.declared.names.Key.{Key}
use Rattle.eu_model.specs.declared.views.Listed.{Listed}
use Rattle.eu_model.specs.declared.commands.Command.{Command}
use Rattle.eu_model.specs.Machine.{with_value}
use Rattle.eu_model.specs.Plain.{Plain}
use Rattle.eu_model.specs.Server.{key_of}
use Rattle.eu_eviction.specs.declared.eviction.Eviction.{Eviction as Evicted}
use Rattle.eu_lease.specs.Term.{Term}
use Rattle.eu_store.specs.Stored.{changed, rejoined}
use Rattle.eu_store.specs.Removed.{with_values}
use Rattle.eu_core.specs.declared.undo.Undo.{Undo}
use Rattle.eu_core.specs.declared.undo.Undo.TheVariants.{Nothing, Renewal, Lease, Eviction, Minute, Expected, Settings}
use Rattle.eu_core.specs.declared.undo.LeaseBefore.{LeaseBefore}
use Rattle.eu_core.specs.declared.undo.RenewalBefore.{RenewalBefore}
use Rattle.eu_core.specs.declared.undo.EvictionBefore.{EvictionBefore}

-- a lease with these moments, as it was before a renewal
abbrev pub retimed : Term → Listed → Listed
retimed term l = rejoined l.instance.status l.instance.overridden term l

-- the key's lease has again the moments that it had, and as many renewals are counted as then
abbrev pub renewal_undone : Option Key → RenewalBefore → Plain → Plain
renewal_undone None b p = p
renewal_undone (Some k) b p = record p { leases = changed (retimed b.lease) p.leases k; last = b.rate.last; since = b.rate.since }

-- the key has again the lease that it had, and its id the row; as many are expected, and as many renewals counted, as then
abbrev pub lease_undone : Option Key → LeaseBefore → Plain → Plain
lease_undone None b p = p
lease_undone (Some k) b p = record p {
  leases = with_value p.leases k b.held;
  overrides = with_value p.overrides k.id b.row;
  expected = b.expected;
  last = b.rate.last;
  since = b.rate.since;
}

-- what an eviction replaced
abbrev pub eviction_before : Plain → Evicted → EvictionBefore
eviction_before p v = record { victims = v.victims; removed = v.removed; expected = p.expected; previous = p.previous }

-- each victim has again the lease that it had, and its id the row; as many are expected as then, and the eviction before is the previous one
abbrev pub eviction_undone : EvictionBefore → Plain → Plain
eviction_undone b p = record p {
  leases = with_values p.leases b.victims.items b.removed.leases.items;
  overrides = with_values p.overrides (map (λ k. k.id) b.victims.items) b.removed.rows.items;
  expected = b.expected;
  previous = b.previous;
}

-- what was before the step of a command, by what it replaced and what it left
abbrev pub undone : Command → Undo → Plain → Plain
undone c Nothing p = p
undone c (Renewal b) p = renewal_undone (key_of c) b p
undone c (Lease b) p = lease_undone (key_of c) b p
undone c (Eviction b) p = eviction_undone b.value p
undone c (Minute rate) p = record p { last = rate.last; since = rate.since }
undone c (Expected n) p = record p { expected = n }
undone c (Settings config) p = record p { config = config }
