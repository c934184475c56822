use Rattle.eu_book_tests.proofs.tests.session_memory.is_served.Given as goal

abbrev pub ghosts-serve : goal.ghosts-serve
ghosts-serve g a = record { steps = a.blanks.steps.name; counted = a.blanks.counted.name; added = a.blanks.added.name; removed = a.blanks.removed.name; parts = a.blanks.steps.parts }
