use Rattle.std.proofs.Common.{sym, ap, ◌∙◌}
use Rattle.std.specs.FinMap.{insert}
use Rattle.eu_audit.proofs.TableLemmas.{put_all, from_all, put_last}
use Rattle.eu_audit.proofs.plain.read_rows.Goals as goal

pub loop-row-init : goal.loop-row-init
loop-row-init c = record { whole = ap (put_all c.args.overrides.now) c.new-table.ensures ∙ from_all c.args.overrides.now }

pub loop-row-preserved : goal.loop-row-preserved
loop-row-preserved c =
    let table = c.loop-row.table in
    let before = c.in-Some.before.now in
    let row = c.in-Some.row.now in
    let put = c.in_ok-put.ensures.ok ∙ ap (λ id. insert table id row.1) c.in_ok-copy.ensures in
    record {
      whole = ap (put_all before) put ∙ sym (put_last before row table) ∙ ap (λ overrides. put_all overrides table) (sym c.in-Some.ensures.cases.0) ∙ c.loop-row.invariant.whole;
    }
