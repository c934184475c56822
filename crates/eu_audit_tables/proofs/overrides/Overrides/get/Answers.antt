use Rattle.std.proofs.Common.{sym, ap, ◌∙◌}
use Rattle.std.specs.FinMap as map
use Rattle.eu_base.proofs.KeyLemmas.{names_total}
use Rattle.eu_audit_tables.proofs.MapLemmas.{get_at}
use Rattle.eu_audit_tables.proofs.overrides.Overrides.get.Goals as goal

pub returns : goal.returns
returns c = c.copied.ensures ∙ c.get.ensures.value ∙ sym (get_at names_total c.self.inside.table.entries c.args.id.now) ∙ ap (λ m. map.get m c.args.id.now) c.self.view_is
