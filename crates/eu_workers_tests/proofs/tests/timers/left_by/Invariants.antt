use Rattle.eu_workers_tests.proofs.tests.timers.left_by.Given as goal

abbrev pub ghosts-leave : goal.ghosts-leave
ghosts-leave g a = record { steps = a.blanks.steps.name; counted = a.blanks.counted.name; added = a.blanks.added.name; removed = a.blanks.removed.name; parts = a.blanks.steps.parts }
