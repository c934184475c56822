use Rattle.std.proofs.Common.{is_some, sym, ap, ◌∙◌}
use Rattle.std.specs.Option.{option_copied_mut}
use Rattle.std.specs.FinMap as map
use Rattle.eu_store.proofs.TableLemmas.{by_name, get_in, inserted, map_of}
use Rattle.eu_eviction.proofs.RowLemmas.{set_found, set_absent}
use Rattle.eu_eviction.proofs.overrides.Overrides.set.Goals as goal
use Rattle.eu_eviction.proofs.overrides.Overrides.set.Goals.{in-Some, in_default}

pub returns : goal.returns
returns c =
    let es = c.self.inside.table.entries in
    let rows = c.args.self.now.rows in
    let id = c.args.id.now in
    let view = ap (λ s. s.rows) c.self.view_is in
    elim c.match-get_mut.branch [
      | in-Some w ↦
          (let found = ap option_copied_mut (sym w.in-Some.is) ∙ c.get_mut.ensures.value in
          let updates = (c.get_mut.follows.holds c.args.status).3 (ap is_some (sym found)) in
          ap (λ i. map_of i.table.entries) w.self-inside-is
          ∙ inserted by_name es (c.get_mut.follows.lender c.args.status).entries id c.args.status updates.0
          ∙ ap (λ m. map.insert m id c.args.status) view
          ∙ set_found rows id w.in-Some.row.now c.args.status (get_in by_name es rows id _ view found))
      | in_default w ↦
          (let found = ap option_copied_mut (sym w.in_default.is) ∙ c.get_mut.ensures.value in
          ap (λ i. map_of i.table.entries) w.self-inside-is
          ∙ ap (λ m. map_of m.entries) c.get_mut.follows.holds-at-none
          ∙ view
          ∙ set_absent by_name rows id c.args.status (get_in by_name es rows id _ view found))
    ]
