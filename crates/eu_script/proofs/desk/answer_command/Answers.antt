use Rattle.std.proofs.Common.{string_bytes}
use Rattle.eu_script.proofs.Desks.{told}
use Rattle.eu_script.proofs.desk.answer_command.Goals as goal

pub returns-clause-ok : goal.returns-clause-ok
returns-clause-ok g c =
    told g.C.Chooser.asks c.args.chooser.now c.args.book.now c.apply-answer.new.self c.apply-answer.new.chooser c.args.command c.args.moment (string_bytes c.print_answer.new.out)
    c.apply-answer.result c.print_answer.result
    c.apply-answer.ensures.applied c.apply-answer.ensures.refused c.apply-answer.ensures.err c.apply-answer.ensures.unasked
    c.print_answer.ensures.known (rw (c.requires, c.settled_line-settled.ensures) at c.print_answer.ensures.text)
