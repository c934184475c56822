use Rattle.std.proofs.Common.{true, arith, rules}
use Rattle.std.proofs.lemmas.Fmt.{hex_byte}
use Rattle.eu_admin.proofs.markup.push_percent.Goals as goal

pub returns : goal.returns
returns c =
    let two = hex_byte true c.args.byte (omega arith) in
    let laid = c.laid_out.ensures in
    let digits = c.in_radix.ensures in
    simp (laid, digits, two) at c.write.ensures.bytes
