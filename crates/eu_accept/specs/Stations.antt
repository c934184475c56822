-- Which workers of a server visit connections
use Rattle.std.specs.Prelude.{Bool, true, false}
use Rattle.eu_accept.specs.declared.station.Station.{Station}
use Rattle.eu_accept.specs.declared.station.Station.TheVariants.{Door, Loop, Pool}

-- all but the one at the door
abbrev pub visits_connections : {R : Type 0} → Station R → Bool
visits_connections (Door door) = false
visits_connections (Loop one) = true
visits_connections (Pool hand) = true
