use Rattle.eu_server_tests.proofs.tests.servers.hands_back.Given as goal

abbrev pub ghosts-serve_book : goal.ghosts-serve_book
ghosts-serve_book g a = record { steps = a.blanks.steps.name; counted = a.blanks.counted.name; added = a.blanks.added.name; removed = a.blanks.removed.name; parts = a.blanks.steps.parts }
