use Rattle.std.proofs.Common.{refl}
use Rattle.eu_script.specs.Script.{opened_with}
use Rattle.eu_script.proofs.Desks.{unopened}
use Rattle.eu_script.proofs.desk.ScriptDesk.open.Goals as goal

pub returns-clause-ok : goal.returns-clause-ok
returns-clause-ok c =
    let opening = c.in-Some.opening in
    rw (rw c.in-Some.is at c.opening_of-opening.ensures.some)
    (opened_with c.args.self.now.config opening.expected opening.peers, (rw c.requires at c.in_ok-push_str.ensures.bytes, refl), refl, rw (c.replace.ensures.after, c.in_ok-book.ensures, c.count-peers.ensures.value) (record { steps = refl; state = refl; journal = unopened c.args.self.now.config opening.expected opening.peers }))
