use Rattle.eu_workers_tests.proofs.tests.memory.is_seated.Given as goal

abbrev pub ghosts-seated : goal.ghosts-seated
ghosts-seated g a = record { steps = a.blanks.steps.name; counted = a.blanks.counted.name; added = a.blanks.added.name; removed = a.blanks.removed.name; parts = a.blanks.steps.parts }
