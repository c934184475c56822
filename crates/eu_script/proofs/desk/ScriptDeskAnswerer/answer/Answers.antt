use Rattle.std.proofs.Common.{rules, refl, string_bytes}
use Rattle.eu_script.proofs.Desks.{closed, opened}
use Rattle.eu_script.proofs.desk.ScriptDeskAnswerer.answer.Goals as goal

pub returns-in_default-clause-ok : goal.returns-in_default-clause-ok
returns-in_default-clause-ok g c =
    closed g.C.Chooser.asks c.args.chooser.now c.args.self.now c.open.new.self c.args.line.now (string_bytes c.open.new.out)
    c.in_ok-line.line c.open.result c.in_ok-line.ensures (search rules) c.open.ensures.ok

pub returns-clause-ok : goal.returns-clause-ok
returns-clause-ok g c =
    opened g.C.Chooser.asks c.args.chooser.now c.args.self.now _ c.args.line.now (string_bytes c.answer_opened.new.out)
    c.in-Some.book.now c.answer_opened.new.book c.answer_opened.new.chooser c.in_ok-line.line c.answer_opened.result
    c.in_ok-line.ensures (search rules) refl refl c.answer_opened.ensures.ok
