use Rattle.std.proofs.Common.{◌++◌, ◌∷◌, [], List, arith, ap, sym, ◌∙◌, append_assoc, length}
use Rattle.std.proofs.lemmas.Grind.{common_steps}
use Rattle.eu_model.specs.declared.asks.Ask.{Ask}
use Rattle.eu_model.proofs.ChainLemmas.{pairs_push}
use Rattle.eu_session.proofs.turn.ask_all.Goals as goal

pub loop-ask-preserved : goal.loop-ask-preserved
loop-ask-preserved g c =
    let next = c.in-Some.ensures.steps.0 in
    let items = rw c.unwrap.ensures at c.push.ensures.items in
    let len = rw c.unwrap.ensures at c.push.ensures.len in
    let count = ap (λ (asks : List Ask). length asks) next in
    record {
      room = grind (arith, common_steps);
      whole = c.loop-ask.invariant.whole ∙ ap (λ (asks : List Ask). c.loop-ask.yielded ++ asks) next ∙ sym (append_assoc c.loop-ask.yielded (c.in-Some.ask ∷ []) c.next.new.self.rest.items);
      made = rw items (pairs_push _ _ _ _ _ _ _ _ c.loop-ask.invariant.made c.ask.ensures);
    }
