-- From places in the heap to positions.
use Rattle.std.proofs.Common.{◌≡◌, ℕ, ◌<◌, List, length, get_or, sym, ap, ◌∙◌, arith}
use Rattle.eu_deadlines.specs.Heap.{AreLinked, by_position}
use Rattle.eu_deadlines.specs.Walk.{IsAllEarlier}
use Rattle.eu_deadlines.specs.Indexed.{AreBefore}
use Rattle.eu_deadlines.proofs.LinkLemmas.{get_or_map, length_map}
use Rattle.eu_deadlines.proofs.WalkLemmas.{rises_between}

module _ (deadlines positions places found of : List ℕ) (limit : ℕ) (l : AreLinked positions places) (long : length deadlines ≡ length positions) (all : IsAllEarlier deadlines limit found) (same : length of ≡ length found)
    (is : (j : ℕ) → j < length found → get_or of j 0 ≡ get_or positions (get_or found j 0) 0) where
  seen_is : (p : ℕ) → p < length places → get_or (by_position deadlines places) p 0 ≡ get_or deadlines (get_or places p 0) 0
  seen_is p h = get_or_map (λ k. get_or deadlines k 0) places p h

  pub are_before : AreBefore (by_position deadlines places) limit of
  are_before = record {
    sound = λ j h.
        let s = all.sound j (omega (arith, same, h)) in
        let t = l.to (get_or found j 0) (omega (arith, long, s.0)) in
        let o = is j (omega (arith, same, h)) in
        let inside : get_or of j 0 < length places = omega (arith, o, t.0, l.long) in
        (omega (arith, length_map (λ k. get_or deadlines k 0) places, inside), omega (arith, seen_is (get_or of j 0) inside ∙ ap (λ p. get_or deadlines (get_or places p 0) 0) o ∙ ap (λ k. get_or deadlines k 0) t.1, s.1));
    once = λ i j lt h e.
        let s = all.sound i (omega (arith, same, h, lt)) in
        let t = all.sound j (omega (arith, same, h)) in
        let places_same = sym (l.to (get_or found i 0) (omega (arith, long, s.0))).1 ∙ ap (λ p. get_or places p 0) (sym (is i (omega (arith, same, h, lt))) ∙ e ∙ is j (omega (arith, same, h))) ∙ (l.to (get_or found j 0) (omega (arith, long, t.0))).1 in
        omega (arith, places_same, rises_between found all.rising i j (omega (arith, lt)) (omega (arith, same, h)), lt);
    complete = λ p h soon.
        let inside : p < length places = omega (arith, length_map (λ k. get_or deadlines k 0) places, h) in
        let b = l.back p (omega (arith, l.long, inside)) in
        let c = all.complete (get_or places p 0) (omega (arith, long, b.0)) (omega (arith, seen_is p inside, soon)) in
        (c.0, omega (arith, same, c.1), is c.0 c.1 ∙ ap (λ k. get_or positions k 0) c.2 ∙ b.1);
  }
