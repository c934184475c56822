use Rattle.std.proofs.Common.{◌∙◌, ap, drop, sym, arith, Some, None}
use Rattle.std.proofs.Math.Seq.{drop-length}
use Rattle.std.proofs.lemmas.Str.Pattern.{find_char}
use Rattle.eu_routes.proofs.PathLemmas.{first_slash, no_slash}
use Rattle.eu_routes.proofs.paths.from_slash.Goals as goal

pub returns-in-Some : goal.returns-in-Some
returns-in-Some c =
    let text = c.args.text.now in
    let p = find_char 47 text (Some c.in-Some.place) c.in-Some.ensures.cases (omega arith) in
    c.range_from.ensures.value ∙ ap (λ n. drop n text) (sym (first_slash text c.in-Some.place p.0 p.1 p.2))

pub returns-in-None : goal.returns-in-None
returns-in-None c =
    let text = c.args.text.now in
    let p = find_char 47 text None c.in-None.ensures.cases (omega arith) in
    sym (ap (λ n. drop n text) (no_slash text p) ∙ drop-length text)
