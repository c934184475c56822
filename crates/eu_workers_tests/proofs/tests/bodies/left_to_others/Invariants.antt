use Rattle.eu_workers_tests.proofs.tests.bodies.left_to_others.Given as goal

abbrev pub ghosts-left : goal.ghosts-left
ghosts-left g a = record { steps = a.blanks.steps.name; counted = a.blanks.counted.name; added = a.blanks.added.name; removed = a.blanks.removed.name; parts = a.blanks.steps.parts }
