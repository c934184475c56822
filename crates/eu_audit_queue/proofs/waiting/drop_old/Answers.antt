use Rattle.std.proofs.Common.{ap, sym, subst, ◌∙◌}
use Rattle.eu_model.specs.Server.{live}
use Rattle.eu_audit_queue.specs.Names.{AreNoted}
use Rattle.eu_audit_queue.proofs.NoteLemmas.{all_live, live-without, noted_without}
use Rattle.eu_audit_queue.proofs.waiting.drop_old.Goals as goal

pub loop-name-preserved : goal.loop-name-preserved
loop-name-preserved c =
    let m = c.args.moment in
    let name = c.in-Some.name in
    let before = c.loop-name.order in
    record {
      noted = subst (AreNoted c.pop_old.new.ages) (sym c.drop_old.ensures)
          (noted_without c.loop-name.ages c.pop_old.new.ages m name before c.in-Some.ensures.old c.loop-name.invariant.noted);
      same = ap (live m) c.drop_old.ensures ∙ live-without m name before ∙ c.loop-name.invariant.same;
    }

pub returns-clause-live : goal.returns-clause-live
returns-clause-live c =
    sym (all_live c.args.moment c.loop-name.ages c.loop-name.order c.in_default.ensures.none c.loop-name.invariant.noted) ∙ c.loop-name.invariant.same
