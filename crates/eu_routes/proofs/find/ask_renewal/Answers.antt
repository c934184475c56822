use Rattle.std.proofs.Common.{refl, sym, inr}
use Rattle.std.proofs.lemmas.Result.{err_from_is_err_and}
use Rattle.eu_routes.specs.Table.{renewal_ask}
use Rattle.eu_routes.proofs.QueryLemmas.{stamp_is, status_is}
use Rattle.eu_routes.proofs.find.ask_renewal.Goals as goal

pub returns-in_err-last_dirty-2-clause-said : goal.returns-in_err-last_dirty-2-clause-said
unfolding renewal_ask
returns-in_err-last_dirty-2-clause-said c =
    let p = err_from_is_err_and c.from_residual-in_err-last_dirty-2.result c.from_residual-in_err-last_dirty-2.ensures.1 in
    rw (p.1, p.2) (inr (rw (c.in_ok-key.ensures.said, stamp_is _ _ _ _ c.in_ok-last_dirty.ensures.one (sym c.in_err-last_dirty-2.ensures)) refl))

pub returns-in_err-overridden-clause-said : goal.returns-in_err-overridden-clause-said
unfolding renewal_ask
returns-in_err-overridden-clause-said c =
    let p = err_from_is_err_and c.from_residual-in_err-overridden.result c.from_residual-in_err-overridden.ensures.1 in
    rw (p.1, p.2) (inr (rw (c.in_ok-key.ensures.said, stamp_is _ _ _ _ c.in_ok-last_dirty.ensures.one (sym c.in_ok-last_dirty-2.ensures), status_is _ _ _ _ c.in_ok-last_dirty.ensures.other (sym c.in_err-overridden.ensures)) refl))

pub returns-clause-said : goal.returns-clause-said
unfolding renewal_ask
returns-clause-said c =
    rw (c.in_ok-key.ensures.said, stamp_is _ _ _ _ c.in_ok-last_dirty.ensures.one (sym c.in_ok-last_dirty-2.ensures), status_is _ _ _ _ c.in_ok-last_dirty.ensures.other (sym c.in_ok-overridden.ensures)) refl
