use Rattle.std.proofs.Common.{sym, ap, ◌∙◌}
use Rattle.std.specs.FinMap as map
use Rattle.eu_store.proofs.TableLemmas.{by_name, get_at, removed}
use Rattle.eu_eviction.proofs.overrides.Overrides.take.Goals as goal

pub returns-clause-before : goal.returns-clause-before
returns-clause-before c = c.swap_remove.ensures.value ∙ sym (get_at by_name c.self.inside.table.entries c.args.id.now) ∙ ap (λ s. map.get s.rows c.args.id.now) c.self.view_is

pub returns-clause-rows : goal.returns-clause-rows
returns-clause-rows c = removed by_name c.self.inside.table.entries c.swap_remove.new.self.entries c.args.id.now c.swap_remove.ensures.updates.0 ∙ ap (λ s. map.remove s.rows c.args.id.now) c.self.view_is
