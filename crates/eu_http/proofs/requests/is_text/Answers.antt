use Rattle.std.proofs.Common.{length, ◌==◌, ap, sym, ◌∙◌}
use Rattle.eu_http.proofs.AskLemmas.{not_so, no_text_of, text_by}
use Rattle.eu_http.proofs.requests.is_text.Goals as goal

pub returns-in-Ok-clause-yes : goal.returns-in-Ok-clause-yes
returns-in-Ok-clause-yes c =
    let text = c.in-Ok.ensures.cases in
    λ some. text_by c.args.body.now text.1 (ap (λ t. length t == 0) (sym text.0) ∙ sym c.is_empty.ensures ∙ not_so c.is_empty.result some)

pub returns-in-Err-clause-no : goal.returns-in-Err-clause-no
returns-in-Err-clause-no c = λ _. no_text_of c.args.body.now c.in-Err.ensures.cases.0
