use Rattle.std.proofs.Common.{List, ℕ, Some, drop, refl}
use Rattle.std.proofs.lemmas.Result.{err_from_is_err_and}
use Rattle.eu_framing.specs.Message.{IsFault, BreaksBody, FindsNext}
use Rattle.eu_framing.proofs.ReadingLemmas.{grows_more, between, blames_later, blames_so}
use Rattle.eu_framing.proofs.RequestLemmas.{body_broken, next_whole, told}
use Rattle.eu_framing.specs.Walking.{IsBegun}
use Rattle.eu_framing.proofs.WalkLemmas.{begun_more, if_some_by}
use Rattle.eu_framing.proofs.request.take_request.Goals as goal

pub returns-in_err-begun-clause-fault : goal.returns-in_err-begun-clause-fault
returns-in_err-begun-clause-fault g c =
    let p = err_from_is_err_and c.from_residual.result c.from_residual.ensures.1 in
    rw (p.1, p.2) (told _ _ _ _ _ c.in_err-begun.field-0.0 c.in_err-begun.ensures.fault)

pub returns-in-Err-clause-fault : goal.returns-in-Err-clause-fault
returns-in-Err-clause-fault g c =
    let begun = c.in-Some.begun in
    let is = rw c.in-Some.is at c.in_ok-begun.ensures.found in
    let fault = c.in-Err.fault in
    let b = c.begin.new.buffer.items in
    let failed = g.R.Source.failed c.read_body.new.reader in
    told failed _ _ _ _ fault (blames_later {failed = failed} IsFault c.in_ok-begun.ensures.grows
    (blames_so _ failed b fault (λ (bytes : List ℕ) f. BreaksBody begun.head.framing (drop begun.head.len bytes) f) IsFault (λ coming f bad. body_broken b coming begun.head f is.head bad) c.in-Err.ensures.fault))

pub returns-in-Err-clause-waiting : goal.returns-in-Err-clause-waiting
returns-in-Err-clause-waiting g c =
    let is = rw c.in-Some.is at c.in_ok-begun.ensures.found in
    if_some_by c.kept.result (λ b. b.value) _ (λ begun. IsBegun c.read_body.new.buffer.items begun) c.kept.ensures
    (begun_more c.in-Some.begun c.read_body.new.walk c.in-Err.ensures.longer is c.in-Err.ensures.stands)

pub returns-in-Ok-clause-found : goal.returns-in-Ok-clause-found
returns-in-Ok-clause-found g c =
    let begun = c.in-Some.begun in
    let is = rw c.in-Some.is at c.in_ok-begun.ensures.found in
    let grows = c.in-Ok.ensures.grows in
    rw c.drop_front.ensures (between c.in-Ok.used (FindsNext (Some c.with_body.result)) (grows_more c.in_ok-begun.ensures.grows grows)
    (λ coming. next_whole c.begin.new.buffer.items _ grows.more coming _ begun.head c.with_body.result grows.grown is.head c.with_body.ensures.head (rw c.with_body.ensures.body (c.in-Ok.ensures.body coming))))
