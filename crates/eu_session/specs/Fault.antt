-- The faults by which the ends of sessions are told
use Rattle.eu_base.specs.declared.faults.Fault.{Fault}
use Rattle.eu_base.specs.declared.faults.Fault.TheVariants as faults
use Rattle.eu_session.specs.declared.faults.SessionFault.{SessionFault}
use Rattle.eu_session.specs.declared.faults.SessionFault.TheVariants.{Read, Write, OutOfMemory}

abbrev pub fault_of : SessionFault → Fault
fault_of Read = faults.Read
fault_of Write = faults.Write
fault_of OutOfMemory = faults.OutOfMemory
