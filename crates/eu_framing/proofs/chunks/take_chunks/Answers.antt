use Rattle.std.proofs.Common.{◌+◌, ◌-◌, ◌∙◌, List, ℕ, ap, arith, drop, length}
use Rattle.std.proofs.lemmas.Result.{err_from_is_err_and}
use Rattle.eu_framing.specs.Chunks.{BreaksChunks, BreaksChunked, max_raw}
use Rattle.eu_framing.proofs.ChunkLemmas.{took_broken}
use Rattle.eu_framing.proofs.ReadingLemmas.{grows_more, blames_later, blames_so}
use Rattle.eu_framing.proofs.WalkLemmas.{last_stands, stands_here, stands_next}
use Rattle.eu_framing.proofs.chunks.take_chunks.Goals as goal

pub returns-in_err-len-clause-fault : goal.returns-in_err-len-clause-fault
returns-in_err-len-clause-fault g c =
    let p = err_from_is_err_and c.from_residual.result c.from_residual.ensures.1 in
    let took = c.chunks.invariant.stands.took in
    let b = c.chunks.buffer.items in
    let at = c.chunks.walk.at in
    let held = length c.chunks.walk.body.items in
    let fault = c.in_err-len.field-0.0 in
    let room = max_raw - (at - c.args.start) in
    rw (p.1, p.2) (blames_later (λ (bytes : List ℕ) f. BreaksChunked (drop c.args.start bytes) f) c.chunks.invariant.grows
    (blames_so _ _ b fault (λ (bytes : List ℕ) f. BreaksChunks room held (drop at bytes) f) (λ (bytes : List ℕ) f. BreaksChunked (drop c.args.start bytes) f)
    (λ coming f bad. took_broken c.args.start at b coming c.chunks.walk.body.items took.0 f took.1 bad) c.in_err-len.ensures.fault))

pub returns-in_err-len-clause-stands : goal.returns-in_err-len-clause-stands
returns-in_err-len-clause-stands g c =
    stands_here c.args.start c.chunks.walk c.take_chunk.new.walk c.take_chunk.ensures.at c.in_err-len.ensures.held c.take_chunk.ensures.longer c.chunks.invariant.stands c.take_chunk.ensures.here

pub returns-in-Last-clause-stands : goal.returns-in-Last-clause-stands
returns-in-Last-clause-stands g c =
    let step = rw c.in-Last.is at c.in_ok-len.ensures.step in
    stands_here c.args.start c.chunks.walk c.take_chunk.new.walk c.take_chunk.ensures.at step.1 c.take_chunk.ensures.longer c.chunks.invariant.stands c.take_chunk.ensures.here

pub returns-in-Last-clause-chunks : goal.returns-in-Last-clause-chunks
returns-in-Last-clause-chunks g c =
    let step = rw c.in-Last.is at c.in_ok-len.ensures.step in
    last_stands c.args.start c.in-Last.len c.chunks.walk c.take_chunk.new.walk c.take_chunk.ensures.at c.take_chunk.ensures.longer c.chunks.invariant.stands step

pub chunks-preserved : goal.chunks-preserved
chunks-preserved g c =
    let step = rw c.in-Chunk.is at c.in_ok-len.ensures.step in
    let len = c.in-Chunk.len in
    let at = ap (λ (n : ℕ). n + len) c.take_chunk.ensures.at in
    record {
      stands = stands_next c.args.start len c.chunks.walk c.take_chunk.new.walk c.pass.new.self c.take_chunk.ensures.longer c.chunks.invariant.stands step.0 (c.pass.ensures.at ∙ at) (c.pass.ensures.seen ∙ at) c.pass.ensures.line (ap (λ b. b.items) c.pass.ensures.body);
      grows = grows_more c.chunks.invariant.grows c.in_ok-len.ensures.grows;
      same_stream = c.take_chunk.ensures.same_stream ∙ c.chunks.invariant.same_stream;
    }
