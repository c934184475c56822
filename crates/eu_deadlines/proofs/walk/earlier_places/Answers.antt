use Rattle.std.proofs.Common.{◌+◌, ◌*◌, ◌<◌, length, ap, ◌∙◌, arith}
use Rattle.eu_deadlines.proofs.WalkLemmas.{offered, offered_length, step, all_found, within, same_default}
use Rattle.eu_deadlines.proofs.walk.earlier_places.Goals as goal

pub offer-requires-in-loop-next : goal.offer-requires-in-loop-next
offer-requires-in-loop-next c =
    let w = within c.args.heap.now c.args.limit c.requires.order c.loop-next.found.items c.loop-next.next c.loop-next.invariant.walked (omega arith) in
    omega (arith, w)

pub overflow_mul-place-in-loop-next : goal.overflow_mul-place-in-loop-next
overflow_mul-place-in-loop-next c =
    let here : c.loop-next.next < length c.loop-next.found.items = omega arith in
    omega (arith, (c.loop-next.invariant.walked.decided.sound c.loop-next.next here).0, same_default c.loop-next.found.items c.loop-next.next c.index-place.result.now 0 here, c.index-place.ensures)

pub overflow_add-place-in-loop-next : goal.overflow_add-place-in-loop-next
overflow_add-place-in-loop-next c =
    let here : c.loop-next.next < length c.loop-next.found.items = omega arith in
    omega (arith, (c.loop-next.invariant.walked.decided.sound c.loop-next.next here).0, same_default c.loop-next.found.items c.loop-next.next c.index-place.result.now 0 here, c.index-place.ensures)

pub offer-requires-in-loop-next-2 : goal.offer-requires-in-loop-next-2
offer-requires-in-loop-next-2 c =
    let w = within c.args.heap.now c.args.limit c.requires.order c.loop-next.found.items c.loop-next.next c.loop-next.invariant.walked (omega arith) in
    omega (arith, w)

pub loop-next-smaller : goal.loop-next-smaller
loop-next-smaller c =
    let w = within c.args.heap.now c.args.limit c.requires.order c.loop-next.found.items c.loop-next.next c.loop-next.invariant.walked (omega arith) in
    omega (arith, w)

pub loop-next-preserved : goal.loop-next-preserved
loop-next-preserved c =
    let here : c.loop-next.next < length c.loop-next.found.items = omega arith in
    let is = c.index-place.ensures ∙ same_default c.loop-next.found.items c.loop-next.next c.index-place.result.now 0 here in
    let one = c.in_ok-offer-2.ensures.found in
    let two = c.in_ok-offer-3.ensures.found in
    let made = two ∙ ap (λ l. offered c.args.heap.now c.args.limit l (2 * c.index-place.result.now + 2)) one in
    record {
      reached = omega (arith, ap length made, offered_length c.args.heap.now c.args.limit (offered c.args.heap.now c.args.limit c.loop-next.found.items (2 * c.index-place.result.now + 1)) (2 * c.index-place.result.now + 2), offered_length c.args.heap.now c.args.limit c.loop-next.found.items (2 * c.index-place.result.now + 1));
      walked = step c.args.heap.now c.args.limit c.requires.order c.loop-next.found.items c.loop-next.next c.loop-next.invariant.walked c.index-place.result.now here is c.offer-in-loop-next-2.new.found.items made;
      counted = omega arith;
      read = omega (arith, c.in_ok-offer-2.ensures.read, c.in_ok-offer-3.ensures.read);
    }

pub returns-clause-found : goal.returns-clause-found
returns-clause-found c = all_found c.args.heap.now c.args.limit c.requires.order c.loop-next.found.items c.loop-next.next c.loop-next.invariant.walked (omega arith)
