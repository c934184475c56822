use Rattle.std.proofs.Common.{true}
use Rattle.eu_core.proofs.registry.Registry.unset_status.Goals as goal

pub carry_out_in_place-requires-clause-ready : goal.carry_out_in_place-requires-clause-ready
carry_out_in_place-requires-clause-ready c = (c.status_unsetting-change.ensures.decides true).ready
