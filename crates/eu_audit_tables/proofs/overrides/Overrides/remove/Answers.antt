use Rattle.std.proofs.Common.{ap, ◌∙◌}
use Rattle.std.specs.FinMap as map
use Rattle.eu_base.proofs.KeyLemmas.{names_total, names_exact}
use Rattle.eu_audit_tables.proofs.MapLemmas.{removed}
use Rattle.eu_audit_tables.proofs.overrides.Overrides.remove.Goals as goal

pub returns : goal.returns
returns c =
    removed names_total names_exact c.self.inside.table.entries c.remove.new.self.entries c.args.id.now c.remove.ensures.updates.0
    ∙ ap (λ m. map.remove m c.args.id.now) c.self.view_is
