use Rattle.std.proofs.Common.{sym, ap, ◌∙◌}
use Rattle.std.specs.FinMap.{insert}
use Rattle.eu_model.specs.View.{by_key}
use Rattle.eu_audit.proofs.TableLemmas.{put_all, from_all, put_last}
use Rattle.eu_audit.proofs.PlainLemmas.{by_key-last}
use Rattle.eu_audit.proofs.plain.read_leases.Goals as goal

pub loop-lease-init : goal.loop-lease-init
loop-lease-init c = record { whole = ap (put_all (by_key c.args.leases.now)) c.new-table.ensures ∙ from_all (by_key c.args.leases.now) }

pub loop-lease-preserved : goal.loop-lease-preserved
loop-lease-preserved c =
    let table = c.loop-lease.table in
    let before = c.in-Some.before.now in
    let lease = c.in-Some.lease.now in
    let put = c.in_ok-put.ensures.ok ∙ (λ i. insert table ((c.in_ok-key.ensures ∙ c.key.ensures) i) (c.in_ok-copied.ensures i)) in
    let last = by_key-last before lease ∙ ap by_key (sym c.in-Some.ensures.cases.0) in
    record {
      whole = ap (put_all (by_key before)) put ∙ sym (put_last (by_key before) (lease.instance.key, lease) table) ∙ ap (λ es. put_all es table) last ∙ c.loop-lease.invariant.whole;
    }
