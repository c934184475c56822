use Rattle.eu_workers_tests.proofs.tests.trims.worked.Given as goal

abbrev pub ghosts-work : goal.ghosts-work
ghosts-work g a = record { steps = a.blanks.steps.name; counted = a.blanks.counted.name; added = a.blanks.added.name; removed = a.blanks.removed.name; parts = a.blanks.steps.parts }
