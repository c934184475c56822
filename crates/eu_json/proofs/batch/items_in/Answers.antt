use Rattle.std.proofs.Common.{◌≡◌, true, false, length, nat_lt, refl, arith}
use Rattle.serde_json.proofs.Views.{items_len-items_view}
use Rattle.std.proofs.lemmas.Bool.{le-ltb, lt-ltb}
use Rattle.eu_json.proofs.batch.items_in.Goals as goal

pub returns-then-len-gt-MOST_SENT-clause-said : goal.returns-then-len-gt-MOST_SENT-clause-said
returns-then-len-gt-MOST_SENT-clause-said c =
    let items = c.in-Some-array_of.items in
    let many : nat_lt 250 (length items.items) ≡ true = lt-ltb 250 (length items.items) (omega (arith, c.len.ensures, items.ok.0, c.if-len-gt-MOST_SENT.true)) in
    rw (← c.in-Some.ensures, ← c.in-Some-array_of.ensures, items_len-items_view items.items, many) refl

pub returns-clause-said : goal.returns-clause-said
returns-clause-said c =
    let items = c.in-Some-array_of.items in
    let few : nat_lt 250 (length items.items) ≡ false = le-ltb 250 (length items.items) (omega (arith, c.len.ensures, items.ok.0, c.if-len-gt-MOST_SENT.false)) in
    rw (← c.in-Some.ensures, ← c.in-Some-array_of.ensures, items_len-items_view items.items, few) refl
