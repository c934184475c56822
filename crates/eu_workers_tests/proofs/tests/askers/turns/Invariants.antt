use Rattle.eu_workers_tests.proofs.tests.askers.turns.Given as goal

abbrev pub ghosts-turns_of : goal.ghosts-turns_of
ghosts-turns_of g a = record { steps = a.blanks.steps.name; counted = a.blanks.counted.name; added = a.blanks.added.name; removed = a.blanks.removed.name; parts = a.blanks.steps.parts }
