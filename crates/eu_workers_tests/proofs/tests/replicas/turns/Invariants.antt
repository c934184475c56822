use Rattle.eu_workers_tests.proofs.tests.replicas.turns.Given as goal

abbrev pub ghosts-turns_from : goal.ghosts-turns_from
ghosts-turns_from g a = record { steps = a.blanks.steps.name; counted = a.blanks.counted.name; added = a.blanks.added.name; removed = a.blanks.removed.name; parts = a.blanks.steps.parts }
