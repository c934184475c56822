use Rattle.std.proofs.Common.{arith, ap, refl, sym, ◌∙◌}
use Rattle.eu_hall.specs.Rooms.{bytes_here}
use Rattle.eu_hall.proofs.SumLemmas.{bytes_entered, stay_free}
use Rattle.eu_hall.proofs.hall.Hall.enter.Goals as goal

pub invariant_of-self : goal.invariant_of-self
invariant_of-self g c =
    let entered = c.insert_reserved-key.ensures in
    record {
      free = stay_free _ _ _ _ entered.updates.others (λ from. absurd (omega (arith, from, c.max-self-inside.ensures))) (λ k from. c.self.invariant.free k (omega (arith, from, c.max-self-inside.ensures)));
      few = omega (arith, entered.len, c.len.ensures, c.if-len-self.false);
      room = omega (arith, entered.capacity, c.self.invariant.room);
      counted = c.self.invariant.counted ∙ sym (bytes_entered _ _ _ _ entered.updates entered.was_vacant refl);
      within = c.self.invariant.within;
    }

pub returns-clause-bytes : goal.returns-clause-bytes
returns-clause-bytes g c =
    let entered = c.insert_reserved-key.ensures in
    bytes_entered _ _ _ _ entered.updates entered.was_vacant refl ∙ ap bytes_here c.self.view_is
