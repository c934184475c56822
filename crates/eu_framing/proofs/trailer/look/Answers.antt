use Rattle.std.proofs.Common.{◌≡◌, ◌∙◌, ap, Err}
use Rattle.httparse.specs.declared.Error.TheVariants.{TooManyHeaders}
use Rattle.eu_framing.proofs.TrailerLemmas.{trailer_found, trailer_refused}
use Rattle.eu_framing.proofs.trailer.look.Goals as goal

pub returns-in-Ok-Complete-clause-trailer : goal.returns-in-Ok-Complete-clause-trailer
returns-in-Ok-Complete-clause-trailer c =
    let found = rw (c.in-Ok-Complete.field-0-is, c.window.ensures, c.min.ensures) at c.in-Ok-Complete.ensures.complete in
    trailer_found c.args.room _ c.parse_headers.new.headers (c.in-Ok-Complete.len, c.in-Ok-Complete._count) (c.parse_headers.auto.headers ∙ c.requires.spans) found

pub returns-in-Err-clause-fault : goal.returns-in-Err-clause-fault
returns-in-Err-clause-fault c = λ more.
    trailer_refused c.args.room c.args.start c.args.buffer.now more c.in-Err.field-0 c.requires.within
    (λ (is : c.in-Err.field-0 ≡ TooManyHeaders). rw (c.requires.spans, c.window.ensures, c.min.ensures) at (c.in-Err.ensures.too_many (ap Err is)))
    (rw (c.window.ensures, c.min.ensures) at c.in-Err.ensures.invalid)
