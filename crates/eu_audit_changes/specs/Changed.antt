-- Changes, as they are told
use Rattle.eu_model.specs.declared.views.Listed.{Listed}
use Rattle.std.specs.Prelude.{Option}
use Rattle.eu_base.specs.declared.statuses.Status.{Status}
use Rattle.eu_model.specs.Change.{Change, under_row}
use Rattle.eu_audit_changes.specs.declared.changes.Changed.{Changed}

abbrev pub change_of : Changed → Change Listed
change_of c = record { lease = c.lease; row = c.row; expected = c.expected; counted = c.counted; reply = c.reply }

-- a lease with its instance under a row
abbrev pub under_listed : Option Status → Listed → Listed
under_listed row l = record l { instance = under_row row l.instance }
