use Rattle.std.proofs.Common.{◌<◌, ◌≤◌, ◌≡◌, ◌++◌, ◌∙◌, ap, inr, List, ℕ, arith, drop, length, refl, true}
use Rattle.std.proofs.lemmas.List.{length-drop}
use Rattle.std.proofs.lemmas.Result.{err_from_is_err_and}
use Rattle.httparse.specs.Grammar.{HasNoSection}
use Rattle.eu_framing.specs.Chunks.{IsTrailerFault, trailer_room}
use Rattle.eu_base.specs.declared.faults.Fault.TheVariants as faults
use Rattle.eu_framing.proofs.ReadingLemmas.{grows_none, grows_more, grows_length, blames_fill, blames_now, blames_so_now, blames_so_end}
use Rattle.eu_framing.proofs.BodyLemmas.{behind}
use Rattle.eu_framing.proofs.ScanLemmas.{at_start, at_more, section_start, section_more, section_stops, whole_window}
use Rattle.eu_framing.proofs.trailer.find_trailer.Goals as goal

pub returns-in_err-len-clause-fault : goal.returns-in_err-len-clause-fault
returns-in_err-len-clause-fault g c =
    let p = err_from_is_err_and c.from_residual.result c.from_residual.ensures.1 in
    rw (p.1, p.2) (blames_now _ _ (λ (bytes : List ℕ) f. IsTrailerFault c.args.room (drop c.args.start bytes) f) c.reads.invariant.grows (rw c.deref.ensures.value at c.in_err-len.ensures.fault))

pub returns-then-branch-eq0-clause-fault : goal.returns-then-branch-eq0-clause-fault
returns-then-branch-eq0-clause-fault g c =
    blames_so_end _ _ _ (λ (bytes : List ℕ) f. IsTrailerFault c.args.room (drop c.args.start bytes) f) _ (grows_more c.reads.invariant.grows c.in_ok-fill.ensures.grows) (c.in_ok-fill.ensures.end (omega arith)) (rw c.deref-then-branch-eq0.ensures.value at c.last_trailer.ensures.fault)

pub returns-clause-fault : goal.returns-clause-fault
returns-clause-fault g c =
    blames_so_now _ _ _ (λ (bytes : List ℕ) f. IsTrailerFault c.args.room (drop c.args.start bytes) f) _ c.reads.invariant.grows (rw c.deref-2.ensures.value at c.full_trailer.ensures.fault)

pub reads-init : goal.reads-init
reads-init g c = record {
  within = c.requires.within;
  room = refl;
  grows = grows_none _ _ _;
  at = at_start true (drop c.args.start c.args.buffer.now.items) c.of_trailer-scan.result c.of_trailer-scan.ensures;
  behind = section_start (drop c.args.start c.args.buffer.now.items) c.of_trailer-scan.result true c.of_trailer-scan.ensures;
  same_stream = refl;
}

pub returns-in_err-fill-clause-fault : goal.returns-in_err-fill-clause-fault
returns-in_err-fill-clause-fault g c =
    let p = err_from_is_err_and c.from_residual-in_err-fill.result c.from_residual-in_err-fill.ensures.1 in
    let b = c.reads.buffer.items in
    let text = drop c.args.start b in
    let short : length text < trailer_room c.args.room = omega (arith, c.reads-test.true, c.min.ensures, c.reads.buffer.ok, c.reads.invariant.within, length-drop c.args.start b) in
    let none = (rw c.deref.ensures.value at c.in_ok-len.ensures.none) c.reads.invariant.at c.reads.invariant.behind in
    rw (p.1, p.2) (blames_fill (λ (bytes : List ℕ) f. IsTrailerFault c.args.room (drop c.args.start bytes) f) c.reads.invariant.grows (inr (faults.BadChunk, section_stops c.args.room text short (rw c.in-None.is at none))) c.in_err-fill.ensures.fault)

pub reads-preserved : goal.reads-preserved
reads-preserved g c =
    let b = c.reads.buffer.items in
    let text = drop c.args.start b in
    let short : length text < trailer_room c.args.room = omega (arith, c.reads-test.true, c.min.ensures, c.reads.buffer.ok, c.reads.invariant.within, length-drop c.args.start b) in
    let none = (rw c.deref.ensures.value at c.in_ok-len.ensures.none) c.reads.invariant.at c.reads.invariant.behind in
    let at = (rw c.deref.ensures.value at c.try_trailer.ensures.at) c.reads.invariant.at in
    let grows = c.in_ok-fill.ensures.grows in
    let within : c.args.start ≤ length b = omega (arith, c.reads.invariant.within, c.reads.buffer.ok) in
    let grown : drop c.args.start c.fill.new.buffer.items ≡ text ++ grows.more = ap (drop c.args.start) grows.grown ∙ behind c.args.start b grows.more within in
    record {
      within = omega (arith, within, c.fill.new.buffer.ok, grows_length grows);
      room = c.try_trailer.auto.spans ∙ c.reads.invariant.room;
      grows = grows_more c.reads.invariant.grows grows;
      at = at_more true text (drop c.args.start c.fill.new.buffer.items) grows.more c.try_trailer.new.scan grown at;
      behind = section_more text (drop c.args.start c.fill.new.buffer.items) grows.more c.try_trailer.new.scan.seen grown (whole_window (trailer_room c.args.room) text HasNoSection short (rw c.in-None.is at none)) at.within;
      same_stream = c.fill.ensures.same_stream ∙ c.reads.invariant.same_stream;
    }
