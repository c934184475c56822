use Rattle.std.proofs.Common.{◌∙◌, sym, refl, arith}
use Rattle.eu_framing.proofs.ScanLemmas.{at_next, end_met, end_next}
use Rattle.eu_framing.proofs.scan.Scan.finds_empty_line.Goals as goal

pub returns-then-ends_at-clause-at : goal.returns-then-ends_at-clause-at
returns-then-ends_at-clause-at c = λ begun old.
    at_next begun c.args.text.now c.bytes.self c.ends_at.new.self _ c.bytes-test.true refl c.ends_at.ensures.seen c.ends_at.ensures.line c.ends_at.ensures.begun (c.bytes.invariant.at begun old)

pub returns-then-ends_at-clause-ends : goal.returns-then-ends_at-clause-ends
returns-then-ends_at-clause-ends c =
    end_met c.args.text.now c.bytes.self _ c.bytes-test.true refl (sym c.ends_at.ensures.ends ∙ c.if-ends_at.true) ∙ sym c.bytes.invariant.ends

pub bytes-preserved : goal.bytes-preserved
bytes-preserved c = record {
  forward = omega (arith, c.bytes.invariant.forward, c.ends_at.ensures.seen);
  at = λ begun old. at_next begun c.args.text.now c.bytes.self c.ends_at.new.self _ c.bytes-test.true refl c.ends_at.ensures.seen c.ends_at.ensures.line c.ends_at.ensures.begun (c.bytes.invariant.at begun old);
  ends = c.bytes.invariant.ends ∙ end_next c.args.text.now c.bytes.self c.ends_at.new.self _ c.bytes-test.true refl c.ends_at.ensures.seen c.ends_at.ensures.line c.ends_at.ensures.begun (sym c.ends_at.ensures.ends ∙ c.if-ends_at.false);
  within = omega (arith, c.bytes.invariant.within, c.ends_at.ensures.seen, c.bytes-test.true);
}
