-- A book that sessions ask goes on by runs
use Rattle.std.proofs.Common.{◌≡◌, ℕ, List, [], ◌∷◌, ◌++◌, length, Result, Ok, Err, refl, sym, ap, ◌∙◌, subst, inl, inr, append_assoc, append-nil, length-append, arith}
use Rattle.std.specs.Prelude.{cond}
use Rattle.std.proofs.lemmas.Bool.Decides.{eqb_tells}
use Rattle.eu_base.specs.declared.faults.Fault.{Fault}
use Rattle.eu_book.specs.Account.{Account, cleared, entry, grown, ready}
use Rattle.eu_base.specs.Limits.{most_entries}
use Rattle.eu_book.proofs.HistoryLemmas.{run_on}
use Rattle.eu_book.specs.Desk.{BookAsks}
use Rattle.eu_model.specs.declared.asks.Answer.{Answer}
use Rattle.eu_model.specs.declared.asks.Answer.TheVariants.{Did, Saw}
use Rattle.eu_model.specs.declared.asks.Ask.{Ask}
use Rattle.eu_model.specs.declared.asks.Ask.TheVariants.{Do, See}
use Rattle.eu_http.specs.declared.exchange.Outcome.{Outcome}
use Rattle.eu_http.specs.declared.exchange.Outcome.TheVariants.{Refused, Forbidden, Answers}
use Rattle.eu_http.specs.declared.policy.Policy.{Policy}
use Rattle.eu_model.specs.declared.commands.Entry.{Entry}
use Rattle.eu_model.specs.Server.{PlainServer}
use Rattle.eu_model.specs.Answers as model
use Rattle.eu_session.specs.Book.{BookTurns, BookSession, GrewBy, RunsFrom, entry_of, entries_of, AddsTurn, AddTurns}
use Rattle.eu_model.specs.Chain.{Pairs}
use Rattle.eu_session.specs.Session.{Standing, Turn, Step, ComesOf}
use Rattle.eu_session.proofs.KeepLemmas.{session_keeps}

stays : (a b : Account) → b ≡ a → GrewBy a [] b
stays a b e = subst (GrewBy a []) (sym e) (record { dropped = []; more = sym (append-nil a.entries); begins = λ _. (refl, refl); steps = omega (arith); run = λ s at. (s, refl, at) })

-- neither list has an element, where both together have none
none_before : {X : Type 0} (xs ys : List X) → xs ++ ys ≡ [] → xs ≡ []
none_before [] ys e = refl
none_before (x ∷ xs) ys e = absurd (omega (arith, ap length e))

none_behind : {X : Type 0} (xs ys : List X) → xs ++ ys ≡ [] → ys ≡ []
none_behind [] ys e = e
none_behind (x ∷ xs) ys e = absurd (omega (arith, ap length e))

goes_on : (a b c : Account) (es fs : List Entry) → GrewBy a es b → GrewBy b fs c → GrewBy a (es ++ fs) c
goes_on a b c es fs one two = record {
  dropped = one.dropped ++ two.dropped;
  more =
      append_assoc one.dropped two.dropped c.entries ∙ ap (λ ds. one.dropped ++ ds) two.more ∙ sym (append_assoc one.dropped b.entries fs)
      ∙ ap (λ ds. ds ++ fs) one.more ∙ append_assoc a.entries es fs;
  begins = λ none.
      let last = two.begins (none_behind one.dropped two.dropped none) in
      let before = one.begins (none_before one.dropped two.dropped none) in
      (last.0 ∙ before.0, last.1 ∙ before.1);
  steps = omega (arith, two.steps, one.steps, length-append es fs);
  run = λ s at.
      let before = one.run s at in
      let after = two.run before.0 before.2 in
      (after.0, run_on s es fs before.0 after.0 before.1 after.1, after.2);
}

-- by an entry, whether the journal begins anew before it or not
grows : (a : Account) (e : Entry) (new : PlainServer) → RunsFrom a.state (e ∷ []) new → GrewBy a (e ∷ []) (grown (ready a) e new)
grows a e new run =
    elim (eqb_tells (length a.entries) most_entries) [
      | inl full ↦
          subst (λ q. GrewBy a (e ∷ []) (grown (cond q (cleared a) a) e new)) (sym full.0)
          (record { dropped = a.entries; more = refl; begins = λ none. absurd (omega (arith, full.1, ap length none)); steps = refl; run = run })
      | inr room ↦
          subst (λ q. GrewBy a (e ∷ []) (grown (cond q (cleared a) a) e new)) (sym room.0)
          (record { dropped = []; more = refl; begins = λ _. (refl, refl); steps = refl; run = run })
    ]

-- one ask
asks : (a b : Account) (ask : Ask) (t : ℕ) (r : Result Answer Fault) → BookAsks a ask t r b → GrewBy a (entry_of a.totals.steps t ask r) b
unfolding model.ServerAnswers model.IsServerAnswer
asks a b (Do c) t (Ok (Did reply)) (number, x, x', applies) =
    let run : RunsFrom a.state (entry 0 number c t reply ∷ []) b.state = λ s at. (let step = applies.step s at in (step.1.0, (step.1.0, step.0, step.1.1, refl), step.1.2)) in
    let grew = subst (GrewBy a (entry 0 number c t reply ∷ [])) (sym applies.whole) (grows a (entry 0 number c t reply) b.state run) in
    subst (λ n. GrewBy a (entry 0 n c t reply ∷ []) b) applies.numbered grew
asks a b (Do c) t (Ok (Saw v)) none = absurd none
asks a b (Do c) t (Err f) refused = stays a b refused.1
asks a b (See q) t (Ok (Did reply)) none = absurd none
asks a b (See q) t (Ok (Saw v)) seen = stays a b seen.1
asks a b (See q) t (Err f) refused = stays a b refused.1

-- those of a request
all : (a b : Account) (t : ℕ) (each : List Ask) (results : List (Result Answer Fault)) → Pairs (λ s ask result s'. BookAsks s ask t result s') a each results b
    → GrewBy a (entries_of a.totals.steps t each results) b
all a b t [] [] e = stays a b e
all a b t (ask ∷ others) (r ∷ rs) (mid, one, rest) =
    let first = asks a mid ask t r one in
    subst (λ n. GrewBy a (entry_of a.totals.steps t ask r ++ entries_of n t others rs) b) first.steps
    (goes_on a mid b (entry_of a.totals.steps t ask r) (entries_of mid.totals.steps t others rs) first (all mid b t others rs rest))
all a b t [] (r ∷ rs) none = absurd none
all a b t (ask ∷ others) [] none = absurd none

abbrev Adds : Policy → Account → Turn → Outcome → Account → Type 0
Adds policy a t outcome b = (entries : List Entry) × AddsTurn policy a.totals.steps t outcome entries × GrewBy a entries b

comes : (policy : Policy) (a b : Account) (t : Turn) (outcome : Outcome) → ComesOf policy (λ s ask m r s'. BookAsks s ask m r s') a t.request t.moment outcome b → Adds policy a t outcome b
comes policy a b t (Refused fault) is = ([], refl, stays a b is.1)
comes policy a b t Forbidden is = ([], refl, stays a b is.1)
comes policy a b t (Answers wanted results) is =
    (entries_of a.totals.steps t.moment is.0.asks results.items, (is.0, is.1, refl), all a b t.moment is.0.asks results.items is.3)

module _ {C : Type 0} (policy : Policy) (tells : C → ℕ → C → Type 0) where
  abbrev Steps : Standing Account C → Turn → Standing Account C → Type 0
  Steps = Step policy (λ s ask m r s'. BookAsks s ask m r s') tells

  turn : (old new : Standing Account C) (t : Turn) → Steps old t new → Adds policy old.desk t t.outcome new.desk
  turn old new t step = comes policy old.desk new.desk t t.outcome step.comes

  pub book_turns : BookTurns policy tells
  book_turns old new [] e = ([], refl, stays old.desk new.desk (ap (λ s. s.desk) e))
  book_turns old new (t ∷ ts) (mid, one, rest) =
      let here = turn old mid t one in
      let others = book_turns mid new ts rest in (
        here.0 ++ others.0,
        (here.0, others.0, refl, here.1, subst (λ n. AddTurns policy n ts others.0) here.2.steps others.1),
        goes_on old.desk mid.desk new.desk here.0 others.0 here.2 others.2,
      )

-- it went on by some entries
abbrev Grew : Account → Account → Type 0
Grew a b = (entries : List Entry) × GrewBy a entries b

pub book_session : {C : Type 0} (policy : Policy) (tells : C → ℕ → C → Type 0) → BookSession policy tells
book_session policy tells old new s result session =
    session_keeps policy (λ a ask t r b. BookAsks a ask t r b) Grew
    (λ a b e. ([], stays a b e))
    (λ a b c one two. (one.0 ++ two.0, goes_on a b c one.0 two.0 one.1 two.1))
    (λ a ask t r b is. (entry_of a.totals.steps t ask r, asks a b ask t r is))
    tells old new s result session
