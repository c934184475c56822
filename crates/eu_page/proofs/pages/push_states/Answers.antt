use Rattle.std.proofs.Common.{sym}
use Rattle.eu_page.proofs.pages.push_states.Goals as goal

pub returns : goal.returns
returns c = simp (sym c.on_or_off-preservation.ensures, sym c.yes_or_no-permitted.ensures, sym c.as_str-statuses.ensures.value) c.writeln.ensures.bytes
