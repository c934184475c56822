use Rattle.std.proofs.Common.{vec_len, ◌≡◌, ◌≢◌, ℕ, List, ◌<◌, ◌-◌, ◌+◌, length, get_or, take, sym, ap, subst, ◌∙◌, arith}
use Rattle.eu_deadlines.specs.Heap.{AreLinked}
use Rattle.eu_deadlines.proofs.RemoveLemmas.{linked_at_end, any_seen}
use Rattle.eu_deadlines.proofs.remove.drop_last.Goals as goal

pub returns-then-position-len-clause-seen : goal.returns-then-position-len-clause-seen
returns-then-position-len-clause-seen c =
    let r = c.requires in
    let m = length c.args.positions.now.items - 1 in
    let size : length c.args.positions.now.items ≡ m + 1 = omega (arith, r.position) in
    let last : get_or c.args.places.now.items c.args.position 0 ≡ m = omega (arith, r.last) in
    let plong : length c.swap_remove.new.self.items ≡ m = omega (arith, r.linked.long, c.swap_remove.ensures.len, size) in
    let moved : c.args.position < m → get_or c.swap_remove.new.self.items c.args.position 0 ≡ get_or c.args.places.now.items m 0 =
    λ low. c.swap_remove.ensures.by_index.0 0 (omega (arith, low, r.linked.long)) ∙ (let e : vec_len c.args.places.now - 1 ≡ m = omega (arith, r.linked.long) in ap (λ k. get_or c.args.places.now.items k 0) e) in
    let stay : (k : ℕ) → k ≢ c.args.position → k < m → get_or c.swap_remove.new.self.items k 0 ≡ get_or c.args.places.now.items k 0 =
    λ k ne low. c.swap_remove.ensures.by_index.1 k 0 ne (omega (arith, low, r.linked.long)) in
    any_seen c.args.positions.now.items c.args.places.now.items c.swap_remove.new.self.items c.args.position m r.linked size (omega (arith, r.position)) last plong moved stay c.args.deadlines.now.items c.pop.new.self.items
    (let e : vec_len c.args.deadlines.now - 1 ≡ m = omega (arith, r.long) in c.pop.ensures.rest ∙ ap (λ k. take k c.args.deadlines.now.items) e)

pub returns-else-position-len-clause-seen : goal.returns-else-position-len-clause-seen
returns-else-position-len-clause-seen c =
    let r = c.requires in
    let m = length c.args.positions.now.items - 1 in
    let size : length c.args.positions.now.items ≡ m + 1 = omega (arith, r.position) in
    let last : get_or c.args.places.now.items c.args.position 0 ≡ m = omega (arith, r.last) in
    let plong : length c.swap_remove.new.self.items ≡ m = omega (arith, r.linked.long, c.swap_remove.ensures.len, size) in
    let moved : c.args.position < m → get_or c.swap_remove.new.self.items c.args.position 0 ≡ get_or c.args.places.now.items m 0 =
    λ low. c.swap_remove.ensures.by_index.0 0 (omega (arith, low, r.linked.long)) ∙ (let e : vec_len c.args.places.now - 1 ≡ m = omega (arith, r.linked.long) in ap (λ k. get_or c.args.places.now.items k 0) e) in
    let stay : (k : ℕ) → k ≢ c.args.position → k < m → get_or c.swap_remove.new.self.items k 0 ≡ get_or c.args.places.now.items k 0 =
    λ k ne low. c.swap_remove.ensures.by_index.1 k 0 ne (omega (arith, low, r.linked.long)) in
    any_seen c.args.positions.now.items c.args.places.now.items c.swap_remove.new.self.items c.args.position m r.linked size (omega (arith, r.position)) last plong moved stay c.args.deadlines.now.items c.pop.new.self.items
    (let e : vec_len c.args.deadlines.now - 1 ≡ m = omega (arith, r.long) in c.pop.ensures.rest ∙ ap (λ k. take k c.args.deadlines.now.items) e)

pub returns-else-position-len-clause-linked : goal.returns-else-position-len-clause-linked
returns-else-position-len-clause-linked c =
    let r = c.requires in
    let m = length c.args.positions.now.items - 1 in
    let size : length c.args.positions.now.items ≡ m + 1 = omega (arith, r.position) in
    let last : get_or c.args.places.now.items c.args.position 0 ≡ m = omega (arith, r.last) in
    let plong : length c.swap_remove.new.self.items ≡ m = omega (arith, r.linked.long, c.swap_remove.ensures.len, size) in
    let moved : c.args.position < m → get_or c.swap_remove.new.self.items c.args.position 0 ≡ get_or c.args.places.now.items m 0 =
    λ low. c.swap_remove.ensures.by_index.0 0 (omega (arith, low, r.linked.long)) ∙ (let e : vec_len c.args.places.now - 1 ≡ m = omega (arith, r.linked.long) in ap (λ k. get_or c.args.places.now.items k 0) e) in
    let stay : (k : ℕ) → k ≢ c.args.position → k < m → get_or c.swap_remove.new.self.items k 0 ≡ get_or c.args.places.now.items k 0 =
    λ k ne low. c.swap_remove.ensures.by_index.1 k 0 ne (omega (arith, low, r.linked.long)) in
    subst (λ (o : List ℕ). AreLinked o c.swap_remove.new.self.items) (let e : vec_len c.args.positions.now - 1 ≡ m = omega arith in sym (c.pop-2.ensures.rest ∙ ap (λ k. take k c.args.positions.now.items) e))
    (linked_at_end c.args.positions.now.items c.args.places.now.items c.swap_remove.new.self.items c.args.position m r.linked size (omega (arith, r.position)) last plong moved stay (omega arith))
