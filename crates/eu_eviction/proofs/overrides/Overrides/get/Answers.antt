use Rattle.std.proofs.Common.{sym, ap, ◌∙◌}
use Rattle.std.specs.FinMap as map
use Rattle.eu_base.specs.Values.{name_eq}
use Rattle.eu_store.proofs.TableLemmas.{by_name, get_at}
use Rattle.eu_eviction.proofs.RowLemmas.{nothing_there}
use Rattle.eu_eviction.proofs.overrides.Overrides.get.Goals as goal

pub returns : goal.returns
returns c = c.copied.ensures ∙ c.get.ensures.value ∙ sym (get_at by_name c.self.inside.table.entries c.args.id.now) ∙ ap (λ s. map.get s.rows c.args.id.now) c.self.view_is

pub returns-then-is_empty : goal.returns-then-is_empty
returns-then-is_empty c =
    let es = c.self.inside.table.entries in
    sym (nothing_there (name_eq c.args.id.now) es (c.is_empty.ensures.0 c.if-is_empty.true)) ∙ sym (get_at by_name es c.args.id.now) ∙ ap (λ s. map.get s.rows c.args.id.now) c.self.view_is
