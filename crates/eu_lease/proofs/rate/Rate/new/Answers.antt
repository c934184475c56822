use Rattle.std.proofs.Common.{sym}
use Rattle.eu_model.proofs.MarkLemmas.{none_last, none_since}
use Rattle.eu_lease.proofs.rate.Rate.new.Goals as goal

pub returns-clause-marks : goal.returns-clause-marks
returns-clause-marks c = record { last = sym none_last; since = sym none_since }
