use Rattle.std.proofs.Common.{◌≡◌, ◌++◌, ◌∷◌, [], arith, length-append, sym, ap, ◌∙◌, refl, length, ◌+◌}
use Rattle.eu_book.specs.declared.journal.Logged.{Logged}
use Rattle.eu_settle.specs.Settled.{part_of}
use Rattle.eu_settle.proofs.PlaceLemmas.{differs_after, beginning_more, ends_here, ends_there, heads_differ, absurd_false}
use Rattle.eu_settle.proofs.settling.first_difference.Goals as goal

pub returns-in-Some-first_own-clause-some : goal.returns-in-Some-first_own-clause-some
returns-in-Some-first_own-clause-some c =
    let i = c.loop-one.invariant in
    differs_after c.loop-one.place i.0 _ _ _ _ i.1 i.2 i.3 (ends_here _ _ _ _ c.in_default.ensures c.in-Some-first_own.ensures.0)

pub returns-in_default-first_own-clause-some : goal.returns-in_default-first_own-clause-some
returns-in_default-first_own-clause-some c =
    let i = c.loop-one.invariant in
    differs_after c.loop-one.place i.0 _ _ _ _ i.1 i.2 i.3 (ends_there _ _ _ _ c.in-Some.ensures.0 c.in_default-first_own.ensures)

pub returns-then-not-is_same-clause-some : goal.returns-then-not-is_same-clause-some
returns-then-not-is_same-clause-some c =
    let i = c.loop-one.invariant in
    differs_after c.loop-one.place i.0 _ _ _ _ i.1 i.2 i.3 (heads_differ _ _ _ _ _ _ c.in-Some.ensures.0 c.in-Some-first_own-2.ensures.0 (λ e. absurd_false (c.if-not-is_same.ensures.1 e)))

pub loop-one-preserved : goal.loop-one-preserved
loop-one-preserved c =
    let i = c.loop-one.invariant in
    let h = c.in-Some.ensures in
    let k = c.in-Some-first_own-2.ensures in
    let same = c.if-not-is_same.ensures.0 refl in
    let p = i.0 in
    let len : length (p ++ c.in-Some.one.now ∷ []) ≡ c.loop-one.place + 1 = omega (arith, length-append p (c.in-Some.one.now ∷ []), i.1) in (
      p ++ c.in-Some.one.now ∷ [],
      len,
      beginning_more c.loop-one.place p _ _ _ _ i.2 h.0,
      beginning_more c.loop-one.place p _ _ _ _ i.3 (k.0 ∙ ap (λ (x : Logged). x ∷ part_of c.args.pass c.in-Some-first_own-2.more.now) (sym same)),
      let room = i.4 in let less = h.1 in omega arith,
    )
