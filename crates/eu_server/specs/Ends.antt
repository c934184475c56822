-- Why a server ends badly
use Rattle.std.specs.Prelude.{◌≡◌, ◌⊎◌}
use Rattle.eu_base.specs.declared.faults.Fault.{Fault}
use Rattle.eu_base.specs.declared.faults.Fault.TheVariants.{OutOfMemory, TooManyPasses, Mismatch, Read}
use Rattle.eu_model.specs.declared.tallies.Tally.{Tally}
use Rattle.eu_shared.specs.Closing.{IsReason}

-- it didn't begin: there was no memory, or a worker had no pass
abbrev pub IsStart : Fault → Type 0
IsStart f = (f ≡ OutOfMemory) ⊎ (f ≡ TooManyPasses)

-- it didn't begin: there was no memory, or the system refused something else, or the clock could not be read
abbrev pub IsBegin : Fault → Type 0
IsBegin f = (f ≡ OutOfMemory) ⊎ (f ≡ Read)

-- its book could not be closed, for want of memory or as a pass is missing, or wasn't settled
abbrev pub IsClose : Fault → Type 0
IsClose f = ((sums : Tally) × (totals : Tally) × IsReason f sums totals) ⊎ (f ≡ Mismatch)

-- it didn't begin, its book could not be closed or wasn't settled, or a connection could not be accepted, or the clock not be read
abbrev pub IsEnd : Fault → Type 0
IsEnd f = IsStart f ⊎ (IsClose f ⊎ (f ≡ Read))
