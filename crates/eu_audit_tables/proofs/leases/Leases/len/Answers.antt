use Rattle.std.proofs.Common.{sym, ap, ◌∙◌}
use Rattle.std.specs.FinMap as map
use Rattle.eu_base.proofs.KeyLemmas.{keys_total, keys_exact}
use Rattle.eu_audit_tables.proofs.MapLemmas.{len_in_order}
use Rattle.eu_audit_tables.proofs.leases.Leases.len.Goals as goal

pub returns-clause-value : goal.returns-clause-value
returns-clause-value c = c.len.ensures.len ∙ sym (len_in_order keys_total keys_exact c.self.inside.table.entries c.len.ensures.ordered) ∙ ap map.len c.self.view_is
