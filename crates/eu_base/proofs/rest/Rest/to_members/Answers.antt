use Rattle.std.proofs.Common.{sym, ap, ◌∙◌}
use Rattle.serde_json.specs.Read.{max_depth}
use Rattle.eu_text.specs.Fit.{is_fit}
use Rattle.eu_text.proofs.ReadLemmas.{has_no_float}
use Rattle.eu_base.proofs.rest.Rest.to_members.Goals as goal

pub returns-in-AsText-clause-whole : goal.returns-in-AsText-clause-whole
returns-in-AsText-clause-whole c = has_no_float max_depth c.args.self.now (ap is_fit (sym c.self.view_is) ∙ c.self.invariant.1)

pub returns-in-AsText-clause-fit : goal.returns-in-AsText-clause-fit
returns-in-AsText-clause-fit c = ap is_fit (sym c.self.view_is) ∙ c.self.invariant.1
