use Rattle.std.proofs.Common.{ap, ◌∙◌}
use Rattle.eu_store.proofs.PartLemmas.{kept_part}
use Rattle.eu_store.proofs.directory.Directory.part_of.Goals as goal

pub returns-clause-parts : goal.returns-clause-parts
returns-clause-parts c =
    kept_part c.args.table.now.entries c.args.self.now.parts.items _ c.args.number c.in_ok-kept.kept c.requires.parts (ap (λ v. v.items) c.in_ok-kept.ensures ∙ ap (λ v. v.items) c.in_ok-part-2.ensures.ok ∙ c.in_ok-gathered.ensures) (λ n p at. c.keep.ensures.parts n p at)
