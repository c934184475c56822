-- What an operator's request asks for
use Rattle.std.specs.Prelude.{ℕ, List, Result, Ok, Err, codes, if◌then◌else◌}
use Rattle.std.specs.Str.{bytes_eq}
use Rattle.eu_base.specs.Gives.{result_map}
use Rattle.eu_base.specs.declared.faults.Fault.{Fault}
use Rattle.eu_base.specs.declared.faults.Fault.TheVariants.{NoRoute}
use Rattle.eu_routes.specs.Path.{app_at, last_segment, parent}
use Rattle.eu_admin.specs.declared.requests.Wanted.{Wanted}
use Rattle.eu_admin.specs.declared.requests.Wanted.TheVariants.{Front, Application, Metrics, Health}

-- the page of an application: `/apps` stands before the last slash, and the name behind it
unfoldable pub application_at : List ℕ → Result Wanted Fault
application_at path = if bytes_eq (parent path) (codes "/apps") then result_map Application (app_at (last_segment path)) else Err NoRoute

-- the page of the server, the metrics, the health, or the page of an application
unfoldable pub wanted_by : List ℕ → Result Wanted Fault
wanted_by path =
    if bytes_eq path (codes "/") then Ok Front
    else (if bytes_eq path (codes "/metrics") then Ok Metrics
    else (if bytes_eq path (codes "/health") then Ok Health
    else application_at path))
