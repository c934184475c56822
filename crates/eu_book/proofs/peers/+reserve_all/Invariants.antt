use Rattle.std.proofs.Common.{vec_len}
use Rattle.eu_book.proofs.peers.+reserve_all.Given as goal

abbrev pub decreases-reserve_all : goal.decreases-reserve_all
decreases-reserve_all l = vec_len l.outboxes.now
