use Rattle.std.proofs.Common.{codes, ◌∙◌}
use Rattle.json.specs.Print.{escape_byte}
use Rattle.eu_json.proofs.batch_write.append_code.Goals as goal

pub returns : goal.returns
unfolding escape_byte
returns c = c.in_ok-extend_from_slice.ensures.items ∙ c.in_ok-append_number.ensures (codes "}")
