use Rattle.std.proofs.Common.{sym, ap, subst, ◌∙◌, IfOk}
use Rattle.eu_store.specs.Sweep.{Suffices}
use Rattle.eu_store.proofs.TableLemmas.{by_key, len_in}
use Rattle.eu_store.proofs.leases.Leases.room_for.Goals as goal

pub returns : goal.returns
returns c =
    let long = len_in by_key c.self.inside.table.entries c.args.self.now.held (ap (λ s. s.held) c.self.view_is) c.len.ensures.unique in
    subst (λ n. IfOk c.new.result (λ taking. Suffices taking c.args.number n)) (c.len.ensures.len ∙ sym long) c.new.ensures
