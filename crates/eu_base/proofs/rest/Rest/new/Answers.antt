use Rattle.std.proofs.Common.{rules, ◌≡◌, true, is_some, refl}
use Rattle.serde_json.specs.Find.{as_object}
use Rattle.serde_json.specs.View.{view as tree_of}
use Rattle.eu_text.specs.Fit.{is_fit}
use Rattle.eu_base.proofs.RestLemmas.{is_rest}
use Rattle.eu_base.proofs.rest.Rest.new.Goals as goal

pub of_fit-requires : goal.of_fit-requires
of_fit-requires c =
    let object : is_some (as_object (tree_of c.args.value)) ≡ true = search rules in
    let fit : is_fit (tree_of c.args.value) ≡ true = search rules in
    is_rest (tree_of c.args.value) object fit

pub returns-clause-found : goal.returns-clause-found
returns-clause-found c =
    let object : is_some (as_object (tree_of c.args.value)) ≡ true = search rules in
    let fit : is_fit (tree_of c.args.value) ≡ true = search rules in
    (λ is. is_rest (tree_of c.args.value) object fit, λ is. refl)
