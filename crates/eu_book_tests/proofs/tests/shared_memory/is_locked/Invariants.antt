use Rattle.eu_book_tests.proofs.tests.shared_memory.is_locked.Given as goal

abbrev pub ghosts-play_locked : goal.ghosts-play_locked
ghosts-play_locked g a = record { steps = a.blanks.steps.name; counted = a.blanks.counted.name; added = a.blanks.added.name; removed = a.blanks.removed.name; parts = a.blanks.steps.parts }
