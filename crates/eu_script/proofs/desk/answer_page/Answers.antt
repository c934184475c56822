use Rattle.std.proofs.Common.{◌++◌, ◌∙◌, string_bytes}
use Rattle.eu_page.specs.Page.{shown_page}
use Rattle.eu_script.proofs.desk.answer_page.Goals as goal

pub returns-clause-text : goal.returns-clause-text
returns-clause-text c s e = c.in_ok-print_page.ensures ∙ (λ i. string_bytes c.args.out.now ++ shown_page (c.counts-counts.ensures s e i) (c.status_counts-statuses.ensures s e i))
