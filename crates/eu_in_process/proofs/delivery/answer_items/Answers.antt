use Rattle.std.proofs.Common.{◌++◌, ◌∷◌, [], List, Option, arith, ap, sym, ◌∙◌, append_assoc, length}
use Rattle.std.proofs.lemmas.Grind.{common_steps}
use Rattle.eu_model.specs.declared.commands.Command.{Command}
use Rattle.eu_model.proofs.ChainLemmas.{pairs_push}
use Rattle.eu_in_process.proofs.delivery.answer_items.Goals as goal

pub loop-command-preserved : goal.loop-command-preserved
loop-command-preserved g c =
    let next = c.in-Some.ensures.steps.0 in
    let items = rw c.unwrap.ensures at c.push.ensures.items in
    let len = rw c.unwrap.ensures at c.push.ensures.len in
    let count = ap (λ (commands : List (Option Command)). length commands) next in
    record {
      room = grind (arith, common_steps);
      whole = c.loop-command.invariant.whole ∙ ap (λ (commands : List (Option Command)). c.loop-command.yielded ++ commands) next ∙ sym (append_assoc c.loop-command.yielded (c.in-Some.command ∷ []) c.next.new.self.rest.items);
      made = rw items (pairs_push _ _ _ _ _ _ _ _ c.loop-command.invariant.made c.answer_item.ensures);
    }
