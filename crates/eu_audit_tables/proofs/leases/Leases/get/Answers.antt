use Rattle.std.proofs.Common.{sym, ap, ◌∙◌}
use Rattle.std.specs.FinMap as map
use Rattle.eu_base.proofs.KeyLemmas.{keys_total}
use Rattle.eu_audit_tables.proofs.MapLemmas.{get_at}
use Rattle.eu_audit_tables.proofs.leases.Leases.get.Goals as goal

pub returns : goal.returns
returns c = c.get.ensures.value ∙ sym (get_at keys_total c.self.inside.table.entries c.args.key.now) ∙ ap (λ m. map.get m c.args.key.now) c.self.view_is
