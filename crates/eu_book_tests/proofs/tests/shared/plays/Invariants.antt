use Rattle.eu_book_tests.proofs.tests.shared.plays.Given as goal

abbrev pub ghosts-play : goal.ghosts-play
ghosts-play g a = record { steps = a.blanks.steps.name; counted = a.blanks.counted.name; added = a.blanks.added.name; removed = a.blanks.removed.name; parts = a.blanks.steps.parts }
