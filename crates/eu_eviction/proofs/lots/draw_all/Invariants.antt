use Rattle.std.proofs.Common.{◌≡◌, ◌-◌, length, replicate, IsPermutation}
use Rattle.eu_clock.specs.Front.{shuffled_from, state_from}
use Rattle.eu_eviction.proofs.lots.draw_all.Given as goal

-- what is left to do leads to the whole result, and the lists stay alike
abbrev pub invariant-loop-i : goal.invariant-loop-i
invariant-loop-i g l =
    let asks = g.C.Chooser.asks in
    record {
      keys : shuffled_from asks l.i (l.fn.number - l.i) l.keys l.chooser ≡ shuffled_from asks 0 l.fn.number l.fn.keys l.fn.chooser;
      chooser : state_from asks l.i (l.fn.number - l.i) (length l.keys) l.chooser ≡ state_from asks 0 l.fn.number (length l.fn.keys) l.fn.chooser;
      permutation : IsPermutation l.fn.keys l.keys;
      lots : l.lots ≡ replicate (length l.fn.lots) l.keys;
    }
