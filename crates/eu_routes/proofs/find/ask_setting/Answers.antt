use Rattle.std.proofs.Common.{refl, sym, inr}
use Rattle.std.proofs.lemmas.Result.{err_from_is_err_and}
use Rattle.eu_routes.specs.Table.{setting_ask}
use Rattle.eu_routes.proofs.QueryLemmas.{stamp_is, status_is}
use Rattle.eu_routes.proofs.find.ask_setting.Goals as goal

pub returns-in_err-last_dirty-clause-said : goal.returns-in_err-last_dirty-clause-said
unfolding setting_ask
returns-in_err-last_dirty-clause-said c =
    let p = err_from_is_err_and c.from_residual-in_err-last_dirty.result c.from_residual-in_err-last_dirty.ensures.1 in
    rw (p.1, p.2) (inr (rw (c.in_ok-key.ensures.said, status_is _ _ _ _ c.in_ok-status.ensures.one (sym c.in_ok-status-2.ensures), c.in-Some.is, stamp_is _ _ _ _ c.in_ok-status.ensures.other (sym c.in_err-last_dirty.ensures)) refl))

pub returns-clause-said : goal.returns-clause-said
unfolding setting_ask
returns-clause-said c =
    rw (c.in_ok-key.ensures.said, status_is _ _ _ _ c.in_ok-status.ensures.one (sym c.in_ok-status-2.ensures), c.in-Some.is, stamp_is _ _ _ _ c.in_ok-status.ensures.other (sym c.in_ok-last_dirty.ensures)) refl
