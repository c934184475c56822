use Rattle.std.proofs.Common.{◌≡◌, ◌-◌, length, IsPermutation}
use Rattle.eu_clock.specs.Front.{shuffled_from, state_from}
use Rattle.eu_clock.proofs.shuffle.choose.Given as goal

-- what is left to do leads to the whole result
abbrev pub invariant-loop-i : goal.invariant-loop-i
invariant-loop-i g l =
    let asks = g.C.Chooser.asks in
    record {
      items : shuffled_from asks l.i (l.fn.n - l.i) l.items l.chooser ≡ shuffled_from asks 0 l.fn.n l.fn.items l.fn.chooser;
      chooser : state_from asks l.i (l.fn.n - l.i) (length l.items) l.chooser ≡ state_from asks 0 l.fn.n (length l.fn.items) l.fn.chooser;
      permutation : IsPermutation l.fn.items l.items;
    }
