use Rattle.std.proofs.Common.{sym, ap, ◌∙◌}
use Rattle.std.specs.FinMap as map
use Rattle.eu_store.proofs.TableLemmas.{by_key, get_at}
use Rattle.eu_store.proofs.leases.Leases.find.Goals as goal

pub returns-in-Some : goal.returns-in-Some
returns-in-Some c = c.in-Some.ensures.value ∙ sym (get_at by_key c.self.inside.table.entries c.args.key.now) ∙ ap (λ s. map.get s.held c.args.key.now) c.self.view_is

pub returns-in-None : goal.returns-in-None
returns-in-None c = c.in-None.ensures.value ∙ sym (get_at by_key c.self.inside.table.entries c.args.key.now) ∙ ap (λ s. map.get s.held c.args.key.now) c.self.view_is
