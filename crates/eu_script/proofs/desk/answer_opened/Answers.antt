use Rattle.std.proofs.Common.{string_bytes}
use Rattle.eu_core.specs.Shown.{shown}
use Rattle.eu_model.specs.View.{one, counts}
use Rattle.eu_script.specs.Texts.{look_text, counts_text}
use Rattle.eu_script.proofs.Desks.{sees, pages}
use Rattle.eu_script.proofs.desk.answer_opened.Goals as goal

pub returns-in_ok-print_look-in-Look-clause-ok : goal.returns-in_ok-print_look-in-Look-clause-ok
returns-in_ok-print_look-in-Look-clause-ok g c =
    rw c.in-Look.is (sees g.C.Chooser.asks c.args.chooser.now c.args.book.now (λ s. one s c.in-Look.key c.in-Look.moment) look_text (string_bytes c.print_look.new.out)
    (shown c.look.result) (rw c.registry.ensures at c.look.ensures) (rw c.requires at c.in_ok-print_look-in-Look.ensures))

pub returns-in_ok-print_counts-in-Counts-clause-ok : goal.returns-in_ok-print_counts-in-Counts-clause-ok
returns-in_ok-print_counts-in-Counts-clause-ok g c =
    rw c.in-Counts.is (sees g.C.Chooser.asks c.args.chooser.now c.args.book.now counts counts_text (string_bytes c.print_counts.new.out)
    c.counts.result (rw c.registry-in-Counts.ensures at c.counts.ensures) (rw c.requires at c.in_ok-print_counts-in-Counts.ensures))

pub returns-in-Page-clause-ok : goal.returns-in-Page-clause-ok
returns-in-Page-clause-ok g c =
    rw c.in-Page.is (pages g.C.Chooser.asks c.args.chooser.now c.args.book.now c.in-Page.moment c.answer_page.result (string_bytes c.answer_page.new.out)
    (rw (c.requires, c.registry-in-Page.ensures) at c.answer_page.ensures.text))

pub returns-in-Apply-clause-ok : goal.returns-in-Apply-clause-ok
returns-in-Apply-clause-ok g c = rw c.in-Apply.is c.answer_command.ensures.ok
