use Rattle.std.proofs.Common.{◌≡◌, ◌<◌, ◌≤◌, ◌+◌, ◌-◌, inl, List, ℕ, ap, arith, drop, length, refl, subst}
use Rattle.std.proofs.lemmas.Result.{err_from_is_err_and}
use Rattle.eu_framing.specs.Fields.{max_body}
use Rattle.eu_framing.specs.Chunks.{IsLineFault, IsDataFault, BreaksChunks}
use Rattle.eu_framing.specs.ChunkSteps.{TakesChunk}
use Rattle.eu_framing.proofs.ChunkLemmas.{chunk_large, chunk_broken, chunk_taken}
use Rattle.eu_framing.proofs.ReadingLemmas.{grows_length, blames_now, blames_later, blames_so}
use Rattle.eu_framing.proofs.WalkLemmas.{here_more, here_of}
use Rattle.eu_framing.proofs.chunks.take_chunk.Goals as goal

pub returns-in_err-len-clause-fault : goal.returns-in_err-len-clause-fault
returns-in_err-len-clause-fault g c =
    let p = err_from_is_err_and c.from_residual.result c.from_residual.ensures.1 in
    let start = c.args.walk.now.at in
    rw (p.1, p.2) (blames_so _ _ c.args.buffer.now.items c.in_err-len.field-0.0 (λ (bytes : List ℕ) f. IsLineFault c.args.room (drop start bytes) f) (λ (bytes : List ℕ) f. BreaksChunks c.args.room (length c.args.walk.now.body.items) (drop start bytes) f)
    (λ coming f bad. inl bad) c.in_err-len.ensures.fault)

pub returns-then-size-len-clause-fault : goal.returns-then-size-len-clause-fault
returns-then-size-len-clause-fault g c =
    let b = c.next_line.new.buffer.items in
    let start = c.args.walk.now.at in
    let held = length c.args.walk.now.body.items in
    let same : length c.next_line.new.walk.body.items ≡ held = ap (λ body. length body.items) c.next_line.ensures.body in
    let within : start ≤ length b = omega (arith, c.requires.here.seen.from, c.requires.here.seen.within, grows_length c.in_ok-len.ensures.grows) in
    let over : max_body < held + c.in_ok-len.size = omega (arith, c.len.ensures, c.next_line.new.walk.body.ok, same) in
    blames_now _ _ (λ (bytes : List ℕ) f. BreaksChunks c.args.room held (drop start bytes) f) c.in_ok-len.ensures.grows
    (λ more. chunk_large c.args.room held start b more (c.in_ok-len.len, c.in_ok-len.size) within c.in_ok-len.ensures.line over)

pub returns-in_err-take_data-clause-fault : goal.returns-in_err-take_data-clause-fault
returns-in_err-take_data-clause-fault g c =
    let p = err_from_is_err_and c.from_residual-in_err-take_data.result c.from_residual-in_err-take_data.ensures.1 in
    let b = c.next_line.new.buffer.items in
    let start = c.args.walk.now.at in
    let held = length c.args.walk.now.body.items in
    let same : length c.next_line.new.walk.body.items ≡ held = ap (λ body. length body.items) c.next_line.ensures.body in
    let len = c.in_ok-len.len in
    let size = c.in_ok-len.size in
    let fault = c.in_err-take_data.field-0.0 in
    let within : start ≤ length b = omega (arith, c.requires.here.seen.from, c.requires.here.seen.within, grows_length c.in_ok-len.ensures.grows) in
    let few : held + size ≤ max_body = omega (arith, c.len.ensures, c.next_line.new.walk.body.ok, same, c.args.walk.now.body.ok, c.requires.held) in
    let some : 0 < size = omega arith in
    rw (p.1, p.2) (blames_later (λ (bytes : List ℕ) f. BreaksChunks c.args.room held (drop start bytes) f) c.in_ok-len.ensures.grows
    (blames_so _ _ b fault (λ (bytes : List ℕ) f. IsDataFault (c.args.room - len) size (drop (start + len) bytes) f) (λ (bytes : List ℕ) f. BreaksChunks c.args.room held (drop start bytes) f)
    (λ coming f bad. chunk_broken c.args.room held start b coming (len, size) f within c.in_ok-len.ensures.line some few bad) c.in_err-take_data.ensures.fault))

pub returns-in_err-take_data-clause-here : goal.returns-in_err-take_data-clause-here
returns-in_err-take_data-clause-here g c =
    here_of c.args.room _ c.next_line.new.walk _ refl refl refl (here_more c.args.room c.next_line.new.walk c.take_data.ensures.longer c.next_line.ensures.here)

pub returns-clause-here : goal.returns-clause-here
returns-clause-here g c =
    here_of c.args.room _ c.next_line.new.walk _ refl refl refl (here_more c.args.room c.next_line.new.walk c.take_data.ensures.longer c.next_line.ensures.here)

pub returns-clause-step : goal.returns-clause-step
returns-clause-step g c =
    let b = c.next_line.new.buffer.items in
    let start = c.args.walk.now.at in
    let held = c.next_line.new.walk.body.items in
    let same = ap (λ body. body.items) c.next_line.ensures.body in
    let len = c.in_ok-len.len in
    let size = c.in_ok-len.size in
    let grows = c.in_ok-take_data.ensures.grows in
    let within : start ≤ length b = omega (arith, c.requires.here.seen.from, c.requires.here.seen.within, grows_length c.in_ok-len.ensures.grows) in
    let few : length held + size ≤ max_body = omega (arith, c.len.ensures, c.next_line.new.walk.body.ok, ap length same, c.args.walk.now.body.ok, c.requires.held) in
    let some : 0 < size = omega arith in
    let long : start + len + size + 2 ≤ length c.take_data.new.buffer.items = omega (arith, c.in_ok-take_data.ensures.inside, c.take_data.new.buffer.ok) in (
      subst (λ (t : List ℕ). TakesChunk start c.args.room c.take_data.new.buffer.items t c.take_data.new.body.items (len + size + 2)) same
          (chunk_taken c.args.room start b _ grows.more held _ len size within c.in_ok-len.ensures.line some few grows.grown c.in_ok-take_data.ensures.data_ long c.in_ok-take_data.ensures.fits),
      omega arith,
    )
