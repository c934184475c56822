use Rattle.eu_workers_tests.proofs.tests.servers.met.Given as goal

abbrev pub ghosts-open_both-K-Label : goal.ghosts-open_both-K-Label
ghosts-open_both-K-Label g a = record { steps = a.blanks.steps.name; counted = a.blanks.counted.name; added = a.blanks.added.name; removed = a.blanks.removed.name; parts = a.blanks.steps.parts }

abbrev pub ghosts-open_both-L-Label : goal.ghosts-open_both-L-Label
ghosts-open_both-L-Label g a = record { steps = a.others.steps.name; counted = a.others.counted.name; added = a.others.added.name; removed = a.others.removed.name; parts = a.others.steps.parts }
