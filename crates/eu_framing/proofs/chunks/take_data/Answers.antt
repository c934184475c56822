use Rattle.eu_base.specs.declared.faults.Fault.{Fault}
use Rattle.std.proofs.Common.{Result, Bool, ◌≡◌, ◌<◌, ◌≤◌, ◌+◌, ◌-◌, min, List, ℕ, Ok, false, ap, sym, arith, drop, take, length}
use Rattle.std.proofs.lemmas.List.{length-take-le, length-drop, length-append}
use Rattle.std.proofs.lemmas.Result.{err_from_is_err_and}
use Rattle.eu_base.specs.declared.faults.Fault.TheVariants as faults
use Rattle.eu_framing.specs.Chunks.{IsDataFault}
use Rattle.eu_framing.proofs.ChunkLemmas.{data_short, data_long, data_open, data_stands}
use Rattle.eu_framing.proofs.ReadingLemmas.{grows_length, grows_more, blames_short, blames_later, blames_now, blames_end}
use Rattle.eu_framing.proofs.chunks.take_data.Goals as goal

pub returns-then-not-branch-clause-fault : goal.returns-then-not-branch-clause-fault
returns-then-not-branch-clause-fault g c =
    let no : ◌≡◌ {A = Result Bool Fault} (Ok c.in_ok-fill_to.field-0) (Ok false) = ap Ok c.if-not-branch.true in
    let b = c.fill_to.new.buffer.items in
    let within : c.args.start ≤ length b = omega (arith, c.requires.within, c.args.buffer.now.ok, grows_length c.in_ok-await_end.ensures.grows, grows_length c.in_ok-fill_to.ensures.grows) in
    let short : length b < c.args.start + min c.args.room (c.args.size + 2) = omega (arith, c.in_ok-fill_to.ensures.cut no, c.min.ensures, c.fill_to.new.buffer.ok) in
    blames_end _ _ (λ (bytes : List ℕ) f. IsDataFault c.args.room c.args.size (drop c.args.start bytes) f) (grows_more c.in_ok-await_end.ensures.grows c.in_ok-fill_to.ensures.grows) (c.in_ok-fill_to.ensures.end no)
    (data_short c.args.room c.args.size c.args.start b within short)

pub returns-then-size-room-clause-fault : goal.returns-then-size-room-clause-fault
returns-then-size-room-clause-fault g c =
    let b = c.fill_to.new.buffer.items in
    let long : c.args.start + min c.args.room (c.args.size + 2) ≤ length b = omega (arith, c.in_ok-fill_to.ensures.whole (ap Ok c.if-not-branch.false), c.min.ensures, c.fill_to.new.buffer.ok) in
    blames_now _ _ (λ (bytes : List ℕ) f. IsDataFault c.args.room c.args.size (drop c.args.start bytes) f) (grows_more c.in_ok-await_end.ensures.grows c.in_ok-fill_to.ensures.grows)
    (λ more. data_long c.args.room c.args.size c.args.start b more c.if-size-room.true long)

pub returns-then-not-has_line_end-clause-fault : goal.returns-then-not-has_line_end-clause-fault
returns-then-not-has_line_end-clause-fault g c =
    let b = c.fill_to.new.buffer.items in
    let long : c.args.start + c.args.size + 2 ≤ length b = omega (arith, c.in_ok-fill_to.ensures.whole (ap Ok c.if-not-branch.false), c.min.ensures, c.fill_to.new.buffer.ok, c.if-size-room.false) in
    blames_now _ _ (λ (bytes : List ℕ) f. IsDataFault c.args.room c.args.size (drop c.args.start bytes) f) (grows_more c.in_ok-await_end.ensures.grows c.in_ok-fill_to.ensures.grows)
    (λ more. data_open c.args.room c.args.size c.args.start b more c.if-size-room.false long (sym (rw c.deref.ensures.value at c.if-not-has_line_end.ensures)))

pub returns-clause-data_ : goal.returns-clause-data_
returns-clause-data_ g c =
    let b = c.fill_to.new.buffer.items in
    let long : c.args.start + c.args.size + 2 ≤ length b = omega (arith, c.in_ok-fill_to.ensures.whole (ap Ok c.if-not-branch.false), c.min.ensures, c.fill_to.new.buffer.ok, c.if-size-room.false) in
    let cut : (c.args.start + c.args.size) - c.args.start ≡ c.args.size = omega arith in (
      take c.args.size (drop c.args.start b),
      length-take-le c.args.size (drop c.args.start b) (omega (arith, long, length-drop c.args.start b)),
      rw (cut, c.deref-2.ensures.value) at c.in_ok-extend_from_slice.ensures.items,
      data_stands c.args.size c.args.start b long (sym (rw c.deref.ensures.value at c.if-not-has_line_end.ensures)),
    )

pub returns-in_err-fill_to-clause-fault : goal.returns-in_err-fill_to-clause-fault
returns-in_err-fill_to-clause-fault g c =
    let p = err_from_is_err_and c.from_residual-in_err-fill_to.result c.from_residual-in_err-fill_to.ensures.1 in
    let begun = c.await_end.new.buffer in
    let within : c.args.start ≤ length begun.items = omega (arith, c.requires.within, c.args.buffer.now.ok, grows_length c.in_ok-await_end.ensures.grows) in
    rw (p.1, p.2) (blames_later (λ (bytes : List ℕ) f. IsDataFault c.args.room c.args.size (drop c.args.start bytes) f) c.in_ok-await_end.ensures.grows
    (blames_short _ (λ (bytes : List ℕ) f. IsDataFault c.args.room c.args.size (drop c.args.start bytes) f) faults.BadChunk
    (λ bytes more e short. data_short c.args.room c.args.size c.args.start bytes (omega (arith, ap length e, length-append begun.items more, within)) (omega (arith, short, c.min.ensures))) c.in_err-fill_to.ensures.fault))

pub returns-in_err-await_end-clause-fault : goal.returns-in_err-await_end-clause-fault
returns-in_err-await_end-clause-fault g c =
    let p = err_from_is_err_and c.from_residual.result c.from_residual.ensures.1 in
    rw (p.1, p.2) c.in_err-await_end.ensures.fault
