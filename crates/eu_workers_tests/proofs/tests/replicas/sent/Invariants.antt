use Rattle.eu_workers_tests.proofs.tests.replicas.sent.Given as goal

abbrev pub ghosts-send : goal.ghosts-send
ghosts-send g a = record { steps = a.blanks.steps.name; counted = a.blanks.counted.name; added = a.blanks.added.name; removed = a.blanks.removed.name; parts = a.blanks.steps.parts }
