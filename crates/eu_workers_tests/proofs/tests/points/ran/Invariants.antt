use Rattle.eu_workers_tests.proofs.tests.points.ran.Given as goal

abbrev pub ghosts-run : goal.ghosts-run
ghosts-run g a = record { steps = a.blanks.steps.name; counted = a.blanks.counted.name; added = a.blanks.added.name; removed = a.blanks.removed.name; parts = a.blanks.steps.parts }
