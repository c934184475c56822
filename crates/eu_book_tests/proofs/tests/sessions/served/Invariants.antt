use Rattle.eu_book_tests.proofs.tests.sessions.served.Given as goal

abbrev pub ghosts-serve_alone : goal.ghosts-serve_alone
ghosts-serve_alone g a = record { steps = a.blanks.steps.name; counted = a.blanks.counted.name; added = a.blanks.added.name; removed = a.blanks.removed.name; parts = a.blanks.steps.parts }
