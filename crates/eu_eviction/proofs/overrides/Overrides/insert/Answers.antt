use Rattle.std.proofs.Common.{ap, ◌∙◌, arith}
use Rattle.std.specs.FinMap as map
use Rattle.eu_store.proofs.MapLemmas.{at_ok}
use Rattle.eu_store.proofs.TableLemmas.{by_name, inserted}
use Rattle.eu_eviction.proofs.overrides.Overrides.insert.Goals as goal

pub unwrap-requires : goal.unwrap-requires
unwrap-requires c = c.insert.ensures.succeeds (omega (arith, c.requires, ap (λ s. s.room) c.self.view_is))

pub returns : goal.returns
returns c =
    let updates = at_ok _ c.insert.ensures.updates c.unwrap.ensures in
    inserted by_name c.self.inside.table.entries c.insert.new.self.entries c.args.id c.args.status updates.0
    ∙ ap (λ s. map.insert s.rows c.args.id c.args.status) c.self.view_is
