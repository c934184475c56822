use Rattle.std.proofs.Common.{vec_len}
use Rattle.eu_book.proofs.peers.+tell_all.Given as goal

abbrev pub decreases-tell_all : goal.decreases-tell_all
decreases-tell_all l = vec_len l.outboxes.now
