use Rattle.eu_book_tests.proofs.tests.shared_memory.is_held.Given as goal

abbrev pub ghosts-play_held : goal.ghosts-play_held
ghosts-play_held a = record { steps = a.blanks.steps.name; counted = a.blanks.counted.name; added = a.blanks.added.name; removed = a.blanks.removed.name; parts = a.blanks.steps.parts }
