use Rattle.std.proofs.Common.{◌≡◌, ◌∙◌, Some, Err, ap, rules, take}
use Rattle.eu_script.proofs.Texts.{same_text}
use Rattle.eu_script.proofs.desk.ScriptDesk.write_journal.Goals as goal

pub returns-in-Err-Write-clause-wrote : goal.returns-in-Err-Write-clause-wrote
returns-in-Err-Write-clause-wrote g c =
    let e = ap Err c.in-Err-Write.field-0-is in
    let front = c.in-Err-Write.ensures.front e in
    let book : c.args.self.now.book ≡ Some c.in-Some.book.now = search rules in
    let text = same_text c.args.self.now.book c.in-Some.book.now c.in_ok-base.base c.entries-entries.result.now c.in_ok-end.end book
    c.in_ok-base.ensures.1 c.entries-entries.ensures.entries c.in_ok-end.ensures in
    (_, front.2, (c.in-Err-Write.ensures.failed e, front.0, ap (take front.0) text))
