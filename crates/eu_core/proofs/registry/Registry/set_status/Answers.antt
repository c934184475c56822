use Rattle.std.proofs.Common.{true}
use Rattle.eu_core.proofs.registry.Registry.set_status.Goals as goal

pub carry_out-requires-clause-ready : goal.carry_out-requires-clause-ready
carry_out-requires-clause-ready c = (c.status_setting-change.ensures true).ready
