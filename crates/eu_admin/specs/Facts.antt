-- Why evictions are permitted or held back
use Rattle.std.specs.Prelude.{◌==◌, not, if◌then◌else◌}
use Rattle.eu_model.specs.declared.views.Counts.{Counts}
use Rattle.eu_admin.specs.declared.facts.Permission.{Permission}
use Rattle.eu_admin.specs.declared.facts.Permission.TheVariants.{Off, NoThreshold, TooFew, Fine}

abbrev pub permission : Counts → Permission
permission c =
    if not c.preservation then Off
    else if c.permitted then Fine
    else if c.threshold == 0 then NoThreshold
    else TooFew
