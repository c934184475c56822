use Rattle.std.proofs.Common.{◌≡◌, ◌≤◌, ◌+◌, length, take, replicate, vec_capacity}
use Rattle.eu_model.specs.declared.commands.Reply.TheVariants.{Evicted}
use Rattle.eu_eviction.proofs.lots.evictions.Given as goal

-- the replies so far, and the lists that are left
abbrev pub invariant-loop-lot : goal.invariant-loop-lot
invariant-loop-lot l = record {
  replies : l.replies.items ≡ replicate (length l.replies.items) (Evicted (take l.number l.keys));
  left : l.lot-iterator.rest.items ≡ replicate (length l.lot-iterator.rest.items) l.keys;
  all : length l.replies.items + length l.lot-iterator.rest.items ≡ length l.fn.lots.items;
  room : length l.fn.lots.items ≤ vec_capacity l.replies;
}
