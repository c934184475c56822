-- One more turn of a timer's worker
use Rattle.std.proofs.Common.{◌≡◌, ◌∙◌, ℕ, ◌+◌, ◌≤◌, ◌++◌, ◌∷◌, [], List, true, false, arith, refl, ap, sym, subst, append-nil, length, length-append, Result, Ok, Err, IfOk, OnErr}
use Rattle.std.specs.Prelude.{is_err}
use Rattle.std.specs.List.{AllByRecursion}
use Rattle.eu_base.specs.declared.faults.Fault.{Fault}
use Rattle.eu_book.specs.declared.book.Receipt.{Receipt}
use Rattle.eu_book.specs.declared.journal.Logged.{Logged}
use Rattle.eu_book.specs.Account.{Applies, entry, logged}
use Rattle.eu_book.proofs.HistoryLemmas.{plus_nothing}
use Rattle.eu_clock.specs.Front.{Asks}
use Rattle.eu_model.specs.declared.commands.Command.{Command}
use Rattle.eu_model.specs.Delta.{delta, plus}
use Rattle.eu_shared.specs.Passes.{PassAccount, IsAnsweredBySome}
use Rattle.eu_workers.specs.declared.ended.Ended.{Ended}
use Rattle.eu_workers.specs.Ended.{Counts}
use Rattle.eu_workers.specs.Returned.{done_by, ComesBack, IsAsked, TakesTurns, Tidies}
use Rattle.eu_workers.specs.Timers.{Answers, AnswersAll, AsksBy, AsksOnly}
use Rattle.eu_workers.proofs.TurnLemmas.{asked_nothing, takes_more, takes_none, takes_within}

all_on : {X : Type 0} (P : X → Type 0) (xs ys : List X) → AllByRecursion P xs → AllByRecursion P ys → AllByRecursion P (xs ++ ys)
all_on P [] ys all more = more
all_on P (x ∷ xs) ys all more = (all.0, all_on P xs ys all.1 more)

-- each entry is one step
done_steps : (ls : List Logged) → (done_by ls).steps ≡ length ls
done_steps [] = refl
done_steps (l ∷ ls) = omega (arith, done_steps ls)

grown_steps : (p q : PassAccount) (b : ComesBack p q) → q.tally.steps ≡ p.tally.steps + length b.added
grown_steps p q b = ap (λ t. t.steps) b.tally ∙ ap (λ n. p.tally.steps + n) (done_steps b.added)

pub asks_none : (c : Command) (p : PassAccount) (e : Ended) → e.turns ≡ 0 → e.refused ≡ 0 → AsksOnly c 0 p p e
asks_none c p e t r = record { turns = takes_none p e t r; only = tt; many = omega (arith, t, r); steps = omega (arith, t, r) }

module _ (c : Command) (n m : ℕ) (p q q' q'' : PassAccount) (e e' : Ended) (a : AsksOnly c n p q e) (journal_first : q.journal_first ≤ q'.journal_first) (number : q'.number ≡ q.number) (tidies : Tidies q' q'') where
  -- one that was answered, and one that was refused
  pub asks_more : (r : Result Receipt Fault)
      → IfOk r (λ y. q'.log ≡ q.log ++ logged c m y.reply y.number ∷ [])
      → IfOk r (λ y. q'.tally ≡ plus q.tally (delta c y.reply))
      → OnErr r (q' ≡ q)
      → Counts e (is_err r) e'
      → AsksOnly c (n + 1) p q'' e'
  asks_more (Ok y) log tally same counts =
      let one = logged c m y.reply y.number ∷ [] in
      let asked : IsAsked q q' = record { added = one; number = number; log = log; tally = tally ∙ ap (plus q.tally) (sym (plus_nothing (delta c y.reply))); journal_first = journal_first } in
      let turns : TakesTurns (n + 1) p q'' e' = takes_more n p q q' q'' e e' false a.turns asked tidies counts in
      let many : length turns.pass.added + e'.refused ≡ e'.turns = omega (arith, length-append a.turns.pass.added one, a.many, counts.0, counts.1) in
      record {
        turns = turns;
        only = all_on (λ (l : Logged). l.command ≡ c) a.turns.pass.added one a.only (refl, tt);
        many = many;
        steps = omega (arith, grown_steps p q'' turns.pass, many);
      }
  asks_more (Err f) log tally same counts =
      let asked = asked_nothing q q' same in
      let turns : TakesTurns (n + 1) p q'' e' = takes_more n p q q' q'' e e' true a.turns asked tidies counts in
      let many : length turns.pass.added + e'.refused ≡ e'.turns = omega (arith, length-append a.turns.pass.added [], a.many, counts.0, counts.1) in
      record {
        turns = turns;
        only = all_on (λ (l : Logged). l.command ≡ c) a.turns.pass.added [] a.only tt;
        many = many;
        steps = omega (arith, grown_steps p q'' turns.pass, many);
      }

pub asks_within : (c : Command) (n limit : ℕ) (p q : PassAccount) (e : Ended) → AsksOnly c n p q e → n ≤ limit → AsksOnly c limit p q e
asks_within c n limit p q e a few = record { turns = takes_within n limit p q e a.turns few; only = a.only; many = a.many; steps = a.steps }

-- ---- what was drawn

-- one answer more, and none
answers_more : {S : Type 0} (chooser : Asks S) (x y z : S) (n : ℕ) (ls : List Logged) (l : Logged) → AnswersAll chooser x n ls y → Answers chooser y n l z → AnswersAll chooser x n (ls ++ l ∷ []) z
answers_more {S} chooser x y z n [] l same one = (z, subst (λ (w : S). Answers chooser w n l z) same one, refl)
answers_more chooser x y z n (m ∷ ls) l all one = (all.0, all.1, answers_more chooser all.0 y z n ls l all.2 one)

answers_same : {S : Type 0} (chooser : Asks S) (x y z : S) (n : ℕ) (ls : List Logged) → AnswersAll chooser x n ls y → z ≡ y → AnswersAll chooser x n (ls ++ []) z
answers_same {S} chooser x y z n ls all same =
    subst (λ (ms : List Logged). AnswersAll chooser x n ms z) (sym (append-nil ls)) (subst (λ (w : S). AnswersAll chooser x n ls w) (sym same) all)

pub draws_none : {S : Type 0} (chooser : Asks S) (x : S) (c : Command) (p : PassAccount) (e : Ended) → e.turns ≡ 0 → e.refused ≡ 0 → AsksBy chooser x c 0 p p e x
unfolding asks_none
draws_none chooser x c p e t r = record { asks = asks_none c p e t r; drawn = refl }

module _ {S : Type 0} (chooser : Asks S) (x y y' : S) (c : Command) (n m : ℕ) (p q q' q'' : PassAccount) (e e' : Ended) (a : AsksBy chooser x c n p q e y) (journal_first : q.journal_first ≤ q'.journal_first)
    (number : q'.number ≡ q.number) (tidies : Tidies q' q'') where
  pub draws_more : (r : Result Receipt Fault)
      → IfOk r (λ v. q'.log ≡ q.log ++ logged c m v.reply v.number ∷ [])
      → IfOk r (λ v. q'.tally ≡ plus q.tally (delta c v.reply))
      → IfOk r (λ v. IsAnsweredBySome chooser y q (entry q.number v.number c m v.reply) y' q')
      → OnErr r (q' ≡ q)
      → OnErr r (y' ≡ y)
      → Counts e (is_err r) e'
      → AsksBy chooser x c (n + 1) p q'' e' y'
  unfolding asks_more
  draws_more (Ok v) log tally answer same unasked counts =
      let number_is : q.number ≡ p.number = a.asks.turns.pass.number in
      let one : Answers chooser y p.number (logged c m v.reply v.number) y' =
      (answer.0, answer.1, answer.2, answer.3, subst (λ (k : ℕ). Applies chooser answer.0 y (entry k v.number c m v.reply) answer.1 y') number_is answer.4) in
      record {
        asks = asks_more c n m p q q' q'' e e' a.asks journal_first number tidies (Ok v) log tally same counts;
        drawn = answers_more chooser x y y' p.number a.asks.turns.pass.added (logged c m v.reply v.number) a.drawn one;
      }
  draws_more (Err f) log tally answer same unasked counts = record {
    asks = asks_more c n m p q q' q'' e e' a.asks journal_first number tidies (Err f) log tally same counts;
    drawn = answers_same chooser x y y' p.number a.asks.turns.pass.added a.drawn unasked;
  }

pub draws_within : {S : Type 0} (chooser : Asks S) (x y : S) (c : Command) (n limit : ℕ) (p q : PassAccount) (e : Ended) → AsksBy chooser x c n p q e y → n ≤ limit → AsksBy chooser x c limit p q e y
unfolding asks_within
draws_within chooser x y c n limit p q e a few = record { asks = asks_within c n limit p q e a.asks few; drawn = a.drawn }
