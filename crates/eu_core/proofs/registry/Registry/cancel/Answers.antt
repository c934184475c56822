use Rattle.std.proofs.Common.{true}
use Rattle.eu_core.proofs.registry.Registry.cancel.Goals as goal

pub carry_out_in_place-requires-clause-ready : goal.carry_out_in_place-requires-clause-ready
carry_out_in_place-requires-clause-ready c = (c.cancellation-change.ensures.decides true 0).ready
