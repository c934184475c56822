use Rattle.std.proofs.Common.{◌+◌, ◌-◌, List, ℕ, drop}
use Rattle.std.proofs.lemmas.Result.{err_from_is_err_and}
use Rattle.eu_framing.specs.Chunks.{IsTrailerFault, BreaksChunked, max_raw}
use Rattle.eu_framing.proofs.TrailerLemmas.{chunked_broken, chunked_whole}
use Rattle.eu_framing.proofs.ReadingLemmas.{grows_more, blames_later, blames_so}
use Rattle.eu_framing.proofs.WalkLemmas.{on_err, stands_more}
use Rattle.eu_framing.proofs.chunks.read_chunked.Goals as goal

pub returns-in_err-len-clause-told : goal.returns-in_err-len-clause-told
returns-in_err-len-clause-told g c =
    let p = err_from_is_err_and c.from_residual.result c.from_residual.ensures.1 in
    rw (p.1, p.2) c.in_err-len.ensures.told

pub returns-in_err-trailer-clause-fault : goal.returns-in_err-trailer-clause-fault
returns-in_err-trailer-clause-fault g c =
    let p = err_from_is_err_and c.from_residual-in_err-trailer.result c.from_residual-in_err-trailer.ensures.1 in
    let b = c.take_chunks.new.buffer.items in
    let at = c.take_chunks.new.walk.at in
    let len = c.in_ok-len.len in
    let fault = c.in_err-trailer.field-0.0 in
    rw (p.1, p.2) (blames_later (λ (bytes : List ℕ) f. BreaksChunked (drop c.args.start bytes) f) c.in_ok-len.ensures.grows
    (blames_so _ _ b fault (λ (bytes : List ℕ) f. IsTrailerFault (max_raw - (at + len - c.args.start)) (drop (at + len) bytes) f) (λ (bytes : List ℕ) f. BreaksChunked (drop c.args.start bytes) f)
    (λ coming f bad. chunked_broken c.args.start at len b _ coming f c.in_ok-len.ensures.chunks bad) c.in_err-trailer.ensures.fault))

pub returns-in_err-trailer-clause-stands : goal.returns-in_err-trailer-clause-stands
returns-in_err-trailer-clause-stands g c =
    on_err _ (stands_more c.args.start c.take_chunks.new.walk c.find_trailer.ensures.longer c.take_chunks.ensures.stands)

pub returns-clause-grows : goal.returns-clause-grows
returns-clause-grows g c = grows_more c.in_ok-len.ensures.grows c.in_ok-trailer.ensures.grows

pub returns-clause-body : goal.returns-clause-body
returns-clause-body g c = λ more.
    let grows = c.in_ok-trailer.ensures.grows in
    rw c.replace.ensures.value (chunked_whole c.args.start c.take_chunks.new.walk.at c.in_ok-len.len c.in_ok-trailer.trailer c.take_chunks.new.buffer.items _ grows.more _ more c.in_ok-len.ensures.chunks grows.grown c.in_ok-trailer.ensures.trailer)
