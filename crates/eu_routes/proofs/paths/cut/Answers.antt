use Rattle.eu_routes.proofs.PathLemmas.{cut_before, cut_behind, uncut_before, uncut_behind}
use Rattle.eu_routes.proofs.paths.cut.Goals as goal

pub returns-in-Some-clause-before : goal.returns-in-Some-clause-before
returns-in-Some-clause-before c =
    let p = c.in-Some.ensures.cases in
    cut_before c.args.path.now c.in-Some.before.now c.in-Some.behind.now p.0 p.1 p.2.0 p.2.1 p.3 p.7

pub returns-in-Some-clause-behind : goal.returns-in-Some-clause-behind
returns-in-Some-clause-behind c =
    let p = c.in-Some.ensures.cases in
    cut_behind c.args.path.now c.in-Some.behind.now p.0 p.1 p.2.0 p.2.1 p.4 p.7

pub returns-in-None-clause-before : goal.returns-in-None-clause-before
returns-in-None-clause-before c = uncut_before c.args.path.now c.in-None.ensures.cases

pub returns-in-None-clause-behind : goal.returns-in-None-clause-behind
returns-in-None-clause-behind c = uncut_behind c.args.path.now c.in-None.ensures.cases
