use Rattle.eu_workers_tests.proofs.tests.victims.evicted.Given as goal

abbrev pub ghosts-evicts_half : goal.ghosts-evicts_half
ghosts-evicts_half g a = record { steps = a.blanks.steps.name; counted = a.blanks.counted.name; added = a.blanks.added.name; removed = a.blanks.removed.name; parts = a.blanks.steps.parts }
