-- Where `--seed` has no number, no seed is what the options give
use Rattle.std.proofs.Common.{rules}
use Rattle.eu_options.proofs.options.drawing_of.Goals as goal

pub returns-in_err-seed-clause-seeded : goal.returns-in_err-seed-clause-seeded
returns-in_err-seed-clause-seeded c = λ n small h.
    let found = c.seed_of.ensures.none n small h in
    search (rules, found)
