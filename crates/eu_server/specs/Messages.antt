-- What a server has told when it begins
use Rattle.std.specs.Prelude.{Bool, not, if◌then◌else◌, Option, Some, None}
use Rattle.eu_accept.specs.declared.messages.Told.{Told}
use Rattle.eu_base.specs.declared.settings.Config.{Config}

-- nothing where it is quiet; else that evictions are held back, but that they are permitted where there is no self-preservation
abbrev pub told_first : Bool → Config → Option Told
told_first is_quiet config = if is_quiet then None else Some (record { permitted = not config.preservation; refused = 0; next = 0 })
