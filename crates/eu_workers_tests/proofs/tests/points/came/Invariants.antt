use Rattle.eu_workers_tests.proofs.tests.points.came.Given as goal

abbrev pub ghosts-come_to : goal.ghosts-come_to
ghosts-come_to g a = record { steps = a.blanks.steps.name; counted = a.blanks.counted.name; added = a.blanks.added.name; removed = a.blanks.removed.name; parts = a.blanks.steps.parts }
