use Rattle.eu_bench.proofs.asks.accepted.Given as goal

abbrev pub ghosts-ask_book : goal.ghosts-ask_book
ghosts-ask_book g a = record { steps = a.blanks.steps.name; counted = a.blanks.counted.name; added = a.blanks.added.name; removed = a.blanks.removed.name; parts = a.blanks.steps.parts }
