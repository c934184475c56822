use Rattle.std.proofs.Common.{◌≡◌, ◌≤◌, length, take}
use Rattle.eu_book.specs.Undone.{undone_all}
use Rattle.eu_book.proofs.undoing.undo_all.Given as goal

-- what is left to undo leads to where all of it leads
abbrev pub invariant-loop-left : goal.invariant-loop-left
invariant-loop-left l = record {
  within : l.left ≤ length l.entries;
  same : undone_all (take l.left l.entries) (take l.left l.undos) l.registry ≡ undone_all l.entries l.undos l.initial.registry;
}

abbrev pub decreases-loop-left : goal.decreases-loop-left
decreases-loop-left l = l.left
