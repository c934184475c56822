-- One more turn of a worker
use Rattle.std.proofs.Common.{◌≡◌, ◌∙◌, ℕ, ◌+◌, ◌≤◌, ◌++◌, ◌∷◌, [], List, Bool, true, false, arith, refl, ap, sym, subst, append_assoc, append-nil, Option, Result, Ok, Err}
use Rattle.eu_base.specs.declared.faults.Fault.{Fault}
use Rattle.eu_base.specs.declared.tasks.Task.{Task}
use Rattle.eu_book.specs.declared.journal.Logged.{Logged}
use Rattle.eu_book.specs.Account.{logged}
use Rattle.eu_book.proofs.HistoryLemmas.{nothing_plus, plus_assoc, plus_nothing}
use Rattle.eu_model.specs.declared.asks.Answer.{Answer}
use Rattle.eu_model.specs.declared.asks.Answer.TheVariants.{Did, Saw}
use Rattle.eu_model.specs.declared.asks.Ask.{Ask}
use Rattle.eu_model.specs.declared.asks.Ask.TheVariants.{Do, See}
use Rattle.eu_json.specs.declared.batch_write.ItemAnswer.{ItemAnswer}
use Rattle.eu_model.specs.Delta.{delta, plus}
use Rattle.eu_http.specs.declared.policy.Policy.{Policy}
use Rattle.eu_peer.specs.declared.turn.Turn.{Turn}
use Rattle.eu_peer.specs.Turns.{Parties, Turns}
use Rattle.eu_peer.proofs.KeepLemmas.{turns_keep}
use Rattle.eu_shared.specs.Seat.{PassAsks}
use Rattle.eu_session.specs.declared.faults.SessionFault.{SessionFault}
use Rattle.eu_session.specs.declared.talk.Turned.{Turned}
use Rattle.eu_session.specs.Session.{Streams, Standing}
use Rattle.eu_session.specs.Talk.{Takes}
use Rattle.eu_session.proofs.KeepLemmas.{takes_keep}
use Rattle.eu_settle.specs.Settled.{from_first}
use Rattle.eu_shared.specs.Passes.{PassAccount, trimmed}
use Rattle.eu_shared.proofs.TrimLemmas.{from_nothing, from_first_on, from_later, trimmed_is}
use Rattle.eu_workers.specs.declared.ended.Ended.{Ended}
use Rattle.eu_workers.specs.Ended.{Counts, IsWithin}
use Rattle.eu_workers.specs.Returned.{done_by, ComesBack, HasTurn, IsAsked, IsTrimmed, OnlyLooks, TakesTurns, Tidies}

pub done_on : (ls ms : List Logged) → done_by (ls ++ ms) ≡ plus (done_by ls) (done_by ms)
done_on [] ms = sym (nothing_plus (done_by ms))
done_on (l ∷ ls) ms = ap (plus (delta l.command l.reply)) (done_on ls ms) ∙ sym (plus_assoc (delta l.command l.reply) (done_by ls) (done_by ms))

-- ---- asks

abbrev pub asked_nothing : (p q : PassAccount) → q ≡ p → IsAsked p q
asked_nothing p q e = record {
  added = [];
  number = ap (λ (x : PassAccount). x.number) e;
  log = ap (λ (x : PassAccount). x.log) e ∙ sym (append-nil p.log);
  tally = ap (λ (x : PassAccount). x.tally) e ∙ sym (plus_nothing p.tally);
  journal_first = omega (arith, ap (λ (x : PassAccount). x.journal_first) e);
}

pub asked_more : (p q r : PassAccount) → IsAsked p q → IsAsked q r → IsAsked p r
asked_more p q r one two = record {
  added = one.added ++ two.added;
  number = two.number ∙ one.number;
  log = two.log ∙ ap (λ ls. ls ++ two.added) one.log ∙ append_assoc p.log one.added two.added;
  tally =
      two.tally ∙ ap (λ t. plus t (done_by two.added)) one.tally ∙ plus_assoc p.tally (done_by one.added) (done_by two.added)
      ∙ ap (plus p.tally) (sym (done_on one.added two.added));
  journal_first = omega (arith, one.journal_first, two.journal_first);
}

-- who only looks asks nothing
pub asked_by_looking : (p q : PassAccount) → OnlyLooks p q → IsAsked p q
asked_by_looking p q looks = record {
  added = [];
  number = looks.number;
  log = looks.log ∙ sym (append-nil p.log);
  tally = looks.tally ∙ sym (plus_nothing p.tally);
  journal_first = looks.journal_first;
}

-- who looks twice only looks
pub looks_more : (p q r : PassAccount) → OnlyLooks p q → OnlyLooks q r → OnlyLooks p r
looks_more p q r one two = record {
  number = two.number ∙ one.number;
  log = two.log ∙ one.log;
  tally = two.tally ∙ one.tally;
  journal_first = omega (arith, one.journal_first, two.journal_first);
}

-- one ask of a session or of a turn for a peer
pub asks : (p : PassAccount) (ask : Ask) (t : ℕ) (r : Result Answer Fault) (q : PassAccount) → PassAsks p ask t r q → IsAsked p q
asks p (Do c) t (Ok (Did reply)) q is = record {
  added = logged c t reply is.number ∷ [];
  number = is.same;
  log = is.log;
  tally = is.tally ∙ ap (plus p.tally) (sym (plus_nothing (delta c reply)));
  journal_first = is.journal_first;
}
asks p (Do c) t (Ok (Saw v)) q never = absurd never
asks p (Do c) t (Err f) q is = asked_nothing p q is.1
asks p (See look) t (Ok (Did reply)) q never = absurd never
asks p (See look) t (Ok (Saw v)) q is = record {
  added = [];
  number = is.1.same;
  log = is.1.log ∙ sym (append-nil p.log);
  tally = is.1.tally ∙ sym (plus_nothing p.tally);
  journal_first = is.1.journal_first;
}
asks p (See look) t (Err f) q is = asked_nothing p q is.1

-- ---- turns

pub trims : (p q : PassAccount) → q ≡ trimmed p → Tidies p q
trims p q is = subst (Tidies p) (sym is) (record { number = refl; tally = refl; journal_first = omega (arith); log = refl })

pub is_trimmed : (p q : PassAccount) → Tidies p q → IsTrimmed q
is_trimmed p q t = trimmed_is q.journal_first p.log q.log t.log

-- what is trimmed now was behind what was trimmed before
pub tidied : (p q s : PassAccount) (added more : List Logged) (first : ℕ) → q.log ≡ from_first first (p.log ++ added) → first ≤ s.journal_first → (later : List Logged) → later ≡ from_first s.journal_first (q.log ++ more)
    → later ≡ from_first s.journal_first (p.log ++ (added ++ more))
tidied p q s added more first log fits later is =
    is ∙ from_first_on s.journal_first q.log more
    ∙ ap (λ ls. from_first s.journal_first ls ++ from_first s.journal_first more) log
    ∙ ap (λ ls. ls ++ from_first s.journal_first more) (from_later first s.journal_first fits (p.log ++ added))
    ∙ sym (from_first_on s.journal_first (p.log ++ added) more)
    ∙ ap (from_first s.journal_first) (append_assoc p.log added more)

abbrev pub comes_more : (p q r s : PassAccount) → ComesBack p q → IsAsked q r → Tidies r s → ComesBack p s
comes_more p q r s back asked tidies = record {
  added = back.added ++ asked.added;
  first = s.journal_first;
  number = tidies.number ∙ asked.number ∙ back.number;
  log = tidied p q s back.added asked.added back.first back.log (omega (arith, back.begins, asked.journal_first, tidies.journal_first)) s.log (tidies.log ∙ ap (from_first s.journal_first) asked.log);
  tally =
      tidies.tally ∙ asked.tally ∙ ap (λ t. plus t (done_by asked.added)) back.tally ∙ plus_assoc p.tally (done_by back.added) (done_by asked.added)
      ∙ ap (plus p.tally) (sym (done_on back.added asked.added));
  begins = omega (arith);
}

pub counts_within : (n : ℕ) (e e' : Ended) (refused : Bool) → IsWithin n e → Counts e refused e' → IsWithin (n + 1) e'
counts_within n e e' true within counts = (omega (arith, within.0, counts.0, counts.1), omega (arith, within.1, counts.0))
counts_within n e e' false within counts = (omega (arith, within.0, counts.0, counts.1), omega (arith, within.1, counts.0))

abbrev pub takes_none : (p : PassAccount) (e : Ended) → e.turns ≡ 0 → e.refused ≡ 0 → TakesTurns 0 p p e
takes_none p e t r = record {
  within = (omega (arith, t, r), omega (arith, t));
  pass = record {
    added = [];
    first = 0;
    number = refl;
    log = sym (from_nothing (p.log ++ []) ∙ append-nil p.log);
    tally = sym (plus_nothing p.tally);
    begins = omega (arith);
  };
  idle = λ _. refl;
  trimmed = λ some. absurd (omega (arith, some, t));
}

abbrev pub takes_more : (n : ℕ) (p q r s : PassAccount) (e e' : Ended) (refused : Bool) → TakesTurns n p q e → IsAsked q r → Tidies r s → Counts e refused e' → TakesTurns (n + 1) p s e'
takes_more n p q r s e e' refused takes asked tidies counts = record {
  within = counts_within n e e' refused takes.within counts;
  pass = comes_more p q r s takes.pass asked tidies;
  idle = λ none. absurd (omega (arith, none, counts.0));
  trimmed = λ _. is_trimmed r s tidies;
}

pub takes_turn : (n : ℕ) (p q s : PassAccount) (e e' : Ended) (refused : Bool) → TakesTurns n p q e → HasTurn q s → Counts e refused e' → TakesTurns (n + 1) p s e'
takes_turn n p q s e e' refused takes turn counts = takes_more n p q turn.0 s e e' refused takes turn.1 turn.2 counts

abbrev pub takes_within : (n limit : ℕ) (p q : PassAccount) (e : Ended) → TakesTurns n p q e → n ≤ limit → TakesTurns limit p q e
takes_within n limit p q e takes few = record { within = (takes.within.0, omega (arith, takes.within.1, few)); pass = takes.pass; idle = takes.idle; trimmed = takes.trimmed }

-- ---- by who asks for it: sessions, and turns for a peer, over whatever holds the pass

module _ {D C : Type 0} (policy : Policy) (pass : D → PassAccount) (tells : C → ℕ → C → Type 0) where
  pub asked_by_take : (n m : ℕ) (old new : Standing D C) (s : Streams) (ahead : List ℕ) (turned : Result Turned SessionFault)
      → Takes policy (λ s ask t r s'. PassAsks (pass s) ask t r (pass s')) tells n m old new s ahead turned → IsAsked (pass old.desk) (pass new.desk)
  asked_by_take n m old new s ahead turned is =
      takes_keep policy (λ s ask t r s'. PassAsks (pass s) ask t r (pass s')) (λ a b. IsAsked (pass a) (pass b))
      (λ a b e. asked_nothing (pass a) (pass b) (ap pass e))
      (λ a b c. asked_more (pass a) (pass b) (pass c))
      (λ a ask t r b. asks (pass a) ask t r (pass b))
      tells n m old new s ahead turned is

pub asked_by_turn : {D P C : Type 0} (pass : D → PassAccount) (submits : P → List Task → Option (List ItemAnswer) → P → Type 0) (tells : C → ℕ → C → Type 0) (number : ℕ) (old new : Parties D P C) (result : Result Turn Fault)
    → Turns (λ s ask t r s'. PassAsks (pass s) ask t r (pass s')) submits tells number old result new → IsAsked (pass old.desk) (pass new.desk)
asked_by_turn pass submits tells number old new result is =
    turns_keep (λ s ask t r s'. PassAsks (pass s) ask t r (pass s')) (λ a b. IsAsked (pass a) (pass b))
    (λ a b e. asked_nothing (pass a) (pass b) (ap pass e))
    (λ a b c. asked_more (pass a) (pass b) (pass c))
    (λ a ask t r b. asks (pass a) ask t r (pass b))
    submits tells number old new result is
