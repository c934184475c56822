use Rattle.std.proofs.Common.{◌<◌, ◌-◌, length, get_or, sym, ap, ◌∙◌, arith}
use Rattle.eu_deadlines.proofs.LinkLemmas.{exchanged_by_swap}
use Rattle.eu_deadlines.proofs.remove.to_last.Goals as goal

pub returns-then-at-last-clause-last : goal.returns-then-at-last-clause-last
returns-then-at-last-clause-last c =
    let r = c.requires in
    let p = c.args.position in
    let end : length c.args.positions.now - 1 < length c.args.positions.now = omega (arith, r.position) in
    let back = r.linked.back p r.position in
    let x = exchanged_by_swap c.args.positions.now c.exchange.new.positions (get_or c.args.places.now p 0) (length c.args.positions.now - 1) back.0 end c.exchange.ensures.positions in
    let is = x.at_b ∙ back.1 in
    let to = (c.exchange.ensures.linked.to (length c.args.positions.now - 1) (omega (arith, end, x.long))).1 in
    omega (arith, sym (ap (λ q. get_or c.exchange.new.places q 0) is) ∙ to, x.long)
