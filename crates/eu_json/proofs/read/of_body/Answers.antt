use Rattle.std.proofs.Common.{sym, ◌∙◌}
use Rattle.serde_json.specs.View.{view}
use Rattle.eu_json.proofs.PartLemmas.{instance_rest}
use Rattle.eu_json.proofs.read.of_body.Goals as goal

pub of_object-requires : goal.of_object-requires
of_object-requires c =
    let fit = sym c.is_whole-whole.ensures.fit ∙ c.if-not-whole.false in
    instance_rest (view c.args.body) (view c.in-Some.instance) c.requires (sym c.in-Some.ensures)
    (sym c.is_object.ensures ∙ c.if-not-is_object.false) fit
