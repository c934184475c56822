use Rattle.std.proofs.Common.{◌≡◌, take, drop, swap, replicate}
use Rattle.eu_eviction.proofs.lots.swap_all.Given as goal

-- those so far are swapped, and the others as they were
abbrev pub invariant-loop-lot : goal.invariant-loop-lot
invariant-loop-lot l = record {
  swapped : take l.lot-index l.lots ≡ replicate l.lot-index (swap l.keys l.i l.j);
  left : drop l.lot-index l.lots ≡ drop l.lot-index l.fn.lots;
}
