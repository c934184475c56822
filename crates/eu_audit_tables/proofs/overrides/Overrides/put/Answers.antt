use Rattle.std.proofs.Common.{ap, ◌∙◌}
use Rattle.std.specs.FinMap as map
use Rattle.eu_base.proofs.KeyLemmas.{names_total, names_exact}
use Rattle.eu_audit_tables.proofs.MapLemmas.{inserted}
use Rattle.eu_audit_tables.proofs.overrides.Overrides.put.Goals as goal

pub returns-clause-ok : goal.returns-clause-ok
returns-clause-ok c =
    inserted names_total names_exact c.self.inside.table.entries c.insert.new.self.entries c.args.id c.args.status c.in_ok-insert.ensures.updates.0
    ∙ ap (λ m. map.insert m c.args.id c.args.status) c.self.view_is
