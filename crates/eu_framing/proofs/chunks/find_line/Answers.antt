use Rattle.std.proofs.Common.{◌≡◌, ◌<◌, ◌≤◌, ◌-◌, ◌++◌, ◌∙◌, ap, inr, refl, List, ℕ, arith, drop, length}
use Rattle.std.proofs.lemmas.List.{length-drop}
use Rattle.eu_base.specs.declared.faults.Fault.TheVariants as faults
use Rattle.httparse.specs.Grammar.{HasNoChunkLine}
use Rattle.eu_framing.proofs.BodyLemmas.{behind}
use Rattle.eu_framing.proofs.ScanLemmas.{line_more, line_stops, whole_window}
use Rattle.std.proofs.lemmas.Result.{err_from_is_err_and}
use Rattle.eu_framing.specs.Chunks.{IsLineFault}
use Rattle.eu_framing.proofs.ChunkLemmas.{line_so_inside}
use Rattle.eu_framing.proofs.ReadingLemmas.{grows_none, grows_more, grows_length, on_ok, blames_fill, blames_now, blames_so_now, blames_so_end}
use Rattle.eu_framing.proofs.WalkLemmas.{seen_all}
use Rattle.eu_framing.proofs.chunks.find_line.Goals as goal

pub returns-in_err-found-clause-fault : goal.returns-in_err-found-clause-fault
returns-in_err-found-clause-fault g c =
    let p = err_from_is_err_and c.from_residual.result c.from_residual.ensures.1 in
    rw (p.1, p.2) (blames_now _ _ (λ (bytes : List ℕ) f. IsLineFault c.args.room (drop c.args.start bytes) f) c.reads.invariant.grows (rw c.deref.ensures.value at c.in_err-found.ensures.fault))

pub returns-then-branch-eq0-clause-inside : goal.returns-then-branch-eq0-clause-inside
returns-then-branch-eq0-clause-inside g c =
    line_so_inside c.args.room c.args.start _ c.fill.new.buffer.items c.last_line.result (omega (arith, c.reads.invariant.within, c.reads.buffer.ok, grows_length c.in_ok-fill.ensures.grows)) (omega (arith, c.fill.new.buffer.ok)) (rw c.deref-then-branch-eq0.ensures.value at c.last_line.ensures.line)

pub returns-then-branch-eq0-clause-fault : goal.returns-then-branch-eq0-clause-fault
returns-then-branch-eq0-clause-fault g c =
    blames_so_end _ _ _ (λ (bytes : List ℕ) f. IsLineFault c.args.room (drop c.args.start bytes) f) _ (grows_more c.reads.invariant.grows c.in_ok-fill.ensures.grows) (c.in_ok-fill.ensures.end (omega arith)) (rw c.deref-then-branch-eq0.ensures.value at c.last_line.ensures.fault)

pub returns-clause-fault : goal.returns-clause-fault
returns-clause-fault g c =
    blames_so_now _ _ _ (λ (bytes : List ℕ) f. IsLineFault c.args.room (drop c.args.start bytes) f) _ c.reads.invariant.grows (rw c.deref-2.ensures.value at c.full_line.ensures.fault)

pub returns-then-branch-eq0-clause-grows : goal.returns-then-branch-eq0-clause-grows
returns-then-branch-eq0-clause-grows g c = on_ok c.last_line.result (grows_more c.reads.invariant.grows c.in_ok-fill.ensures.grows)

pub reads-init : goal.reads-init
reads-init g c = record {
  within = omega (arith, c.requires.seen.from, c.requires.seen.within, c.args.buffer.now.ok);
  seen = omega (arith, c.requires.seen.within, c.args.buffer.now.ok);
  grows = grows_none _ _ _;
  from = c.requires.seen.from;
  behind = c.requires.seen.behind;
  same_stream = refl;
}

pub returns-in_err-fill-clause-fault : goal.returns-in_err-fill-clause-fault
returns-in_err-fill-clause-fault g c =
    let p = err_from_is_err_and c.from_residual-in_err-fill.result c.from_residual-in_err-fill.ensures.1 in
    let b = c.reads.buffer.items in
    let text = drop c.args.start b in
    let short : length text < c.args.room = omega (arith, c.reads-test.true, c.reads.buffer.ok, c.reads.invariant.within, length-drop c.args.start b) in
    let none = (rw c.deref.ensures.value at c.in_ok-found.ensures.none) c.reads.invariant.from c.reads.invariant.behind in
    rw (p.1, p.2) (blames_fill (λ (bytes : List ℕ) f. IsLineFault c.args.room (drop c.args.start bytes) f) c.reads.invariant.grows (inr (faults.BadChunk, line_stops c.args.room text short (rw c.in-None.is at none))) c.in_err-fill.ensures.fault)

pub reads-preserved : goal.reads-preserved
reads-preserved g c =
    let b = c.reads.buffer.items in
    let text = drop c.args.start b in
    let short : length text < c.args.room = omega (arith, c.reads-test.true, c.reads.buffer.ok, c.reads.invariant.within, length-drop c.args.start b) in
    let none = (rw c.deref.ensures.value at c.in_ok-found.ensures.none) c.reads.invariant.from c.reads.invariant.behind in
    let grows = c.in_ok-fill.ensures.grows in
    let within : c.args.start ≤ length b = omega (arith, c.reads.invariant.within, c.reads.buffer.ok) in
    let grown : drop c.args.start c.fill.new.buffer.items ≡ text ++ grows.more = ap (drop c.args.start) grows.grown ∙ behind c.args.start b grows.more within in
    record {
      within = omega (arith, within, c.fill.new.buffer.ok, grows_length grows);
      seen = omega (arith, c.len-in-reads.ensures, c.reads.buffer.ok, c.fill.new.buffer.ok, grows_length grows);
      grows = grows_more c.reads.invariant.grows grows;
      from = omega (arith, c.len-in-reads.ensures, c.reads.invariant.within);
      behind = line_more text (drop c.args.start c.fill.new.buffer.items) grows.more (c.len-in-reads.result - c.args.start) grown (whole_window c.args.room text HasNoChunkLine short (rw c.in-None.is at none)) (omega (arith, c.len-in-reads.ensures, c.reads.buffer.ok, length-drop c.args.start b));
      same_stream = c.fill.ensures.same_stream ∙ c.reads.invariant.same_stream;
    }

pub returns-in_err-fill-clause-seen : goal.returns-in_err-fill-clause-seen
returns-in_err-fill-clause-seen g c =
    let b = c.reads.buffer.items in
    let text = drop c.args.start b in
    let short : length text < c.args.room = omega (arith, c.reads-test.true, c.reads.buffer.ok, c.reads.invariant.within, length-drop c.args.start b) in
    let none = (rw c.deref.ensures.value at c.in_ok-found.ensures.none) c.reads.invariant.from c.reads.invariant.behind in
    seen_all c.args.start c.len-in-reads.result (omega (arith, c.len-in-reads.ensures, c.reads.buffer.ok)) (omega (arith, c.reads.invariant.within, c.reads.buffer.ok)) (whole_window c.args.room text HasNoChunkLine short (rw c.in-None.is at none)) c.fill.ensures.longer

pub returns-then-branch-eq0-clause-seen : goal.returns-then-branch-eq0-clause-seen
returns-then-branch-eq0-clause-seen g c =
    let b = c.reads.buffer.items in
    let text = drop c.args.start b in
    let short : length text < c.args.room = omega (arith, c.reads-test.true, c.reads.buffer.ok, c.reads.invariant.within, length-drop c.args.start b) in
    let none = (rw c.deref.ensures.value at c.in_ok-found.ensures.none) c.reads.invariant.from c.reads.invariant.behind in
    seen_all c.args.start c.len-in-reads.result (omega (arith, c.len-in-reads.ensures, c.reads.buffer.ok)) (omega (arith, c.reads.invariant.within, c.reads.buffer.ok)) (whole_window c.args.room text HasNoChunkLine short (rw c.in-None.is at none)) c.fill.ensures.longer
