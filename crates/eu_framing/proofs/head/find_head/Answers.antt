use Rattle.std.proofs.Common.{◌<◌, ◌∙◌, length, arith, refl, false}
use Rattle.std.proofs.lemmas.Result.{err_from_is_err_and}
use Rattle.eu_framing.specs.Message.{max_head, IsHeadFault}
use Rattle.eu_framing.proofs.ReadingLemmas.{grows_none, grows_more, blames_fill, blames_now, blames_so_now, blames_so_end}
use Rattle.eu_framing.proofs.HeadLemmas.{window_all}
use Rattle.eu_framing.proofs.ScanLemmas.{at_start, at_more, head_start, head_more, head_stops}
use Rattle.eu_framing.proofs.head.find_head.Goals as goal

pub returns-in_err-head-clause-fault : goal.returns-in_err-head-clause-fault
returns-in_err-head-clause-fault g c =
    let p = err_from_is_err_and c.from_residual.result c.from_residual.ensures.1 in
    rw (p.1, p.2) (blames_now _ _ IsHeadFault c.reads.invariant.grows (rw c.deref.ensures.value at c.in_err-head.ensures.fault))

pub returns-then-branch-eq0-clause-fault : goal.returns-then-branch-eq0-clause-fault
returns-then-branch-eq0-clause-fault g c =
    blames_so_end _ _ _ IsHeadFault _ (grows_more c.reads.invariant.grows c.in_ok-fill.ensures.grows) (c.in_ok-fill.ensures.end (omega arith)) (rw c.deref-then-branch-eq0.ensures.value at c.last_head.ensures.fault)

pub returns-clause-fault : goal.returns-clause-fault
returns-clause-fault g c =
    blames_so_now _ _ _ IsHeadFault _ c.reads.invariant.grows (rw c.deref-2.ensures.value at c.full_head.ensures.fault)

pub reads-init : goal.reads-init
reads-init g c = record {
  room = c.requires;
  grows = grows_none _ _ _;
  at = at_start false c.args.buffer.now.items c.of_head-scan.result c.of_head-scan.ensures;
  behind = head_start c.args.buffer.now.items c.of_head-scan.result false c.of_head-scan.ensures;
  same_stream = refl;
}

pub returns-in_err-fill-clause-fault : goal.returns-in_err-fill-clause-fault
returns-in_err-fill-clause-fault g c =
    let p = err_from_is_err_and c.from_residual-in_err-fill.result c.from_residual-in_err-fill.ensures.1 in
    let b = c.reads.buffer.items in
    let short : length b < max_head = omega (arith, c.reads-test.true, c.reads.buffer.ok) in
    let none = (rw c.deref.ensures.value at c.in_ok-head.ensures.none) c.reads.invariant.at c.reads.invariant.behind in
    rw (p.1, p.2) (blames_fill IsHeadFault c.reads.invariant.grows (head_stops b short (rw c.in-None.is at none)) c.in_err-fill.ensures.fault)

pub reads-preserved : goal.reads-preserved
reads-preserved g c =
    let b = c.reads.buffer.items in
    let short : length b < max_head = omega (arith, c.reads-test.true, c.reads.buffer.ok) in
    let none = (rw c.deref.ensures.value at c.in_ok-head.ensures.none) c.reads.invariant.at c.reads.invariant.behind in
    let at = (rw c.deref.ensures.value at c.try_head.ensures.at) c.reads.invariant.at in
    let grows = c.in_ok-fill.ensures.grows in
    record {
      room = c.try_head.auto.spans ∙ c.reads.invariant.room;
      grows = grows_more c.reads.invariant.grows grows;
      at = at_more false b c.fill.new.buffer.items grows.more c.try_head.new.scan grows.grown at;
      behind = head_more b c.fill.new.buffer.items grows.more c.try_head.new.scan.seen grows.grown (rw (window_all b short) at (rw c.in-None.is at none)) at.within;
      same_stream = c.fill.ensures.same_stream ∙ c.reads.invariant.same_stream;
    }
