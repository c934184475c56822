use Rattle.eu_workers_tests.proofs.tests.askers.moments.Given as goal

abbrev pub ghosts-moments_of : goal.ghosts-moments_of
ghosts-moments_of g a = record { steps = a.blanks.steps.name; counted = a.blanks.counted.name; added = a.blanks.added.name; removed = a.blanks.removed.name; parts = a.blanks.steps.parts }
