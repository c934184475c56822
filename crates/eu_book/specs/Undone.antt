-- What the registry of a book was before the entries of its journal
use Rattle.std.specs.Prelude.{List, [], ◌∷◌}
use Rattle.eu_core.specs.declared.undo.Undo.{Undo}
use Rattle.eu_core.specs.Undone.{undone}
use Rattle.eu_model.specs.declared.commands.Entry.{Entry}
use Rattle.eu_model.specs.Plain.{Plain}

-- before all entries, by what the step of each replaced: the last one is undone first
abbrev pub undone_all : List Entry → List Undo → Plain → Plain
undone_all [] us p = p
undone_all (e ∷ es) [] p = p
undone_all (e ∷ es) (u ∷ us) p = undone e.command u (undone_all es us p)
