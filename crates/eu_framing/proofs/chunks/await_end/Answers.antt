use Rattle.eu_base.specs.declared.faults.Fault.{Fault}
use Rattle.std.proofs.Common.{Result, Bool, ◌≡◌, ◌<◌, ◌≤◌, ◌+◌, min, List, ℕ, Ok, false, ap, ◌∙◌, arith, drop, length}
use Rattle.std.proofs.lemmas.List.{length-append}
use Rattle.std.proofs.lemmas.Result.{err_from_is_err_and}
use Rattle.eu_base.specs.declared.faults.Fault.TheVariants as faults
use Rattle.eu_framing.specs.Chunks.{IsDataFault}
use Rattle.eu_framing.proofs.ChunkLemmas.{data_short, data_wrong}
use Rattle.eu_framing.proofs.ReadingLemmas.{grows_length, blames_short, blames_now, blames_end}
use Rattle.eu_framing.proofs.chunks.await_end.Goals as goal

pub returns-then-not-branch-clause-fault : goal.returns-then-not-branch-clause-fault
returns-then-not-branch-clause-fault g c =
    let no : ◌≡◌ {A = Result Bool Fault} (Ok c.in_ok-fill_to.field-0) (Ok false) = ap Ok c.if-not-branch.true in
    let b = c.fill_to.new.buffer.items in
    let within : c.args.start ≤ length b = omega (arith, c.requires.within, c.args.buffer.now.ok, grows_length c.in_ok-fill_to.ensures.grows) in
    let short : length b < c.args.start + min c.args.room (c.args.size + 2) = omega (arith, c.in_ok-fill_to.ensures.cut no, c.min.ensures, c.fill_to.new.buffer.ok) in
    blames_end _ _ (λ (bytes : List ℕ) f. IsDataFault c.args.room c.args.size (drop c.args.start bytes) f) c.in_ok-fill_to.ensures.grows (c.in_ok-fill_to.ensures.end no)
    (data_short c.args.room c.args.size c.args.start b within short)

pub returns-in_err-fill_to-clause-fault : goal.returns-in_err-fill_to-clause-fault
returns-in_err-fill_to-clause-fault g c =
    let p = err_from_is_err_and c.from_residual.result c.from_residual.ensures.1 in
    rw (p.1, p.2) (blames_short _ (λ (bytes : List ℕ) f. IsDataFault c.args.room c.args.size (drop c.args.start bytes) f) faults.BadChunk
    (λ bytes more e short. data_short c.args.room c.args.size c.args.start bytes (omega (arith, ap length e, length-append c.args.buffer.now.items more, c.requires.within, c.args.buffer.now.ok)) (omega (arith, short, c.min.ensures))) c.in_err-fill_to.ensures.fault)

pub returns-then-index-ne13-clause-fault : goal.returns-then-index-ne13-clause-fault
returns-then-index-ne13-clause-fault g c =
    let b = c.fill_to.new.buffer.items in
    let long : c.args.start + c.args.size + 1 ≤ length b = omega (arith, c.in_ok-fill_to.ensures.whole (ap Ok c.if-not-branch.false), c.min.ensures, c.fill_to.new.buffer.ok, c.if-size-room.true) in
    blames_now _ _ (λ (bytes : List ℕ) f. IsDataFault c.args.room c.args.size (drop c.args.start bytes) f) c.in_ok-fill_to.ensures.grows
    (λ more. data_wrong c.args.room c.args.size c.args.start c.index.result.now b more c.if-size-room.true long (λ e. c.if-index-ne13.true (c.index.ensures ∙ e)))
