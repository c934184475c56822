use Rattle.std.proofs.Common.{inl}
use Rattle.std.proofs.lemmas.Result.{err_from_is_err_and}
use Rattle.eu_framing.specs.Message.{IsHeadFault, IsFault}
use Rattle.eu_framing.proofs.ReadingLemmas.{grows_none, blames_now, blames_later, blames_so}
use Rattle.eu_framing.proofs.RequestLemmas.{next_found, next_broken}
use Rattle.eu_framing.proofs.request.next_head.Goals as goal

pub returns-in_err-find_head-clause-fault : goal.returns-in_err-find_head-clause-fault
returns-in_err-find_head-clause-fault g c =
    let p = err_from_is_err_and c.from_residual.result c.from_residual.ensures.1 in
    rw (p.1, p.2) (blames_so _ _ c.args.buffer.now.items c.in_err-find_head.field-0.0 IsHeadFault IsFault (λ coming f bad. inl bad) c.in_err-find_head.ensures.fault)

pub returns-in_err-copy_head-in-Some-clause-fault : goal.returns-in_err-copy_head-in-Some-clause-fault
returns-in_err-copy_head-in-Some-clause-fault g c =
    let p = err_from_is_err_and c.from_residual-in_err-copy_head-in-Some.result c.from_residual-in_err-copy_head-in-Some.ensures.1 in
    let head = rw c.in-Some.is at c.in_ok-find_head.ensures.head in
    let fault = c.in_err-copy_head-in-Some.field-0.0 in
    let failed = g.R.Source.failed c.find_head.new.reader in
    let left = g.R.Source.remaining c.find_head.new.reader in
    let b = c.find_head.new.buffer.items in
    rw (p.1, p.2) (blames_later {failed = failed} IsFault c.in_ok-find_head.ensures.grows
    (next_broken failed left b _ c.in-Some.found fault c.find_head.ensures.room head (rw (c.window.ensures, c.deref.ensures.value) at c.in_err-copy_head-in-Some.ensures.head)
    (λ x. blames_now failed fault IsFault (grows_none left failed b) x)))

pub returns-in_ok-copy_head-in-Some-clause-found : goal.returns-in_ok-copy_head-in-Some-clause-found
returns-in_ok-copy_head-in-Some-clause-found g c =
    let head = rw c.in-Some.is at c.in_ok-find_head.ensures.head in
    next_found c.find_head.new.buffer.items _ c.in-Some.found c.in_ok-copy_head-in-Some.field-0 c.find_head.ensures.room head (rw (c.window.ensures, c.deref.ensures.value) at c.in_ok-copy_head-in-Some.ensures.head) c.in_ok-copy_head-in-Some.ensures.len
