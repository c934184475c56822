-- A book that is opened, one that begins its journal anew, and one that grows by an entry
use Rattle.std.proofs.Common.{◌≡◌, ◌≢◌, ◌⊎◌, inl, inr, ℕ, ◌+◌, ◌<◌, ◌≤◌, ◌^◌, List, [], ◌∷◌, ◌++◌, length, refl, sym, ap, ◌∙◌, subst, arith, false, true}
use Rattle.std.specs.Prelude.{None, Some, Err, Ok, ◌==◌, cond, Bool, Option}
use Rattle.std.specs.FinMap.{len-empty}
use Rattle.std.proofs.Math.Dec.{eqb}
use Rattle.std.proofs.lemmas.Bool.Decides.{eqb_tells}
use Rattle.std.proofs.lemmas.List.{length-append}
use Rattle.eu_base.specs.declared.faults.Fault.{Fault}
use Rattle.eu_base.specs.declared.faults.Fault.TheVariants.{Exhausted, OutOfMemory}
use Rattle.eu_base.specs.declared.settings.Config.{Config}
use Rattle.eu_base.specs.Limits.{most_entries, most_steps}
use Rattle.eu_base.specs.Values.{key_cmp}
use Rattle.eu_core.specs.declared.undo.Undo.{Undo}
use Rattle.eu_model.specs.declared.commands.Command.{Command}
use Rattle.eu_model.specs.declared.commands.Entry.{Entry}
use Rattle.eu_model.specs.declared.commands.Reply.{Reply}
use Rattle.eu_model.specs.declared.queues.Queue.{Queue}
use Rattle.eu_model.specs.declared.tallies.Tally.{Tally}
use Rattle.eu_model.specs.Answers.{IsRefusal, ServerAnswers, IsServerAnswer}
use Rattle.eu_model.specs.Delta.{delta, plus, removed_by, added_by, counted_by, tally_of}
use Rattle.eu_model.specs.Server.{IsNumbered, PlainServer, plain_server, server_fault}
use Rattle.eu_model.specs.Plain.{Plain, listed}
use Rattle.eu_model.specs.Server as server
use Rattle.eu_model.proofs.AccountLemmas.{tally_push, numbered_push, runs_push, counted_at_most_one, answer_accounts}
use Rattle.eu_model.proofs.MapLemmas.{len-map_values}
use Rattle.eu_model.proofs.ServedLemmas as of
use Rattle.eu_outbox.specs.Boxed.{Boxed}
use Rattle.eu_book.specs.declared.journal.Journal.{Journal}
use Rattle.eu_book.specs.Account.{Account, Refuses, opened, IsKept, cleared, ready, entry, grown}
use Rattle.eu_book.specs.Checkpoint.{account_with, begun, BeginsAt, IsPaired, IsSame}
use Rattle.eu_book.specs.Peers.{IsRefused, MayRefuse, queues_of, server_with}
use Rattle.eu_core.specs.Undone.{undone}
use Rattle.eu_book.specs.Undone.{undone_all}
use Rattle.eu_book.proofs.HistoryLemmas.{runs_on, runs_ended, numbered_on, plus_assoc, plus_nothing, tally_on}
use Rattle.eu_book.proofs.UndoneLemmas.{undone_all-push}

-- ---- opened

pub opened_kept : (config : Config) (expected peers : ℕ) → expected < 2 ^ 32 → peers ≤ 8 → IsKept (opened config expected peers)
opened_kept config expected peers clients few =
    let first = server.opened config expected peers in
    record {
      lawful = record {
        start = plain_server first;
        dropped = [];
        opening = record { config = config; expected = expected; peers = peers; expected_fits = clients; peers_fit = few; opened = refl };
        came = record { from = first; to = first; begins = refl; ends = refl; run = refl };
        came_numbered = tt;
        first = refl;
        run = record { from = first; to = first; begins = refl; ends = refl; run = refl };
        numbered = tt;
        to_steps = refl;
        totals = refl;
        leases = omega (arith, len-map_values key_cmp listed first.machine.leases, len-empty);
      };
      fits = omega (arith);
      steps = omega (arith);
      counted = omega (arith);
      added = omega (arith);
    }

-- ---- begun anew

module _ (a : Account) (kept : IsKept a) where
  pub cleared_kept : IsKept (cleared a)
  cleared_kept =
      let all = kept.lawful in
      let after : IsNumbered (0 + length all.dropped) a.entries = subst (λ n. IsNumbered n a.entries) (omega (arith, all.first)) all.numbered in
      record {
        lawful = record {
          start = all.start;
          dropped = all.dropped ++ a.entries;
          opening = all.opening;
          came = runs_on all.start all.dropped a.base a.entries a.state all.came all.run;
          came_numbered = numbered_on 0 all.dropped a.entries all.came_numbered after;
          first = omega (arith, all.to_steps, all.first, length-append all.dropped a.entries);
          run = runs_ended a.base a.entries a.state all.run;
          numbered = tt;
          to_steps = omega (arith);
          totals = all.totals ∙ sym (tally_on all.dropped a.entries) ∙ sym (plus_nothing (tally_of (all.dropped ++ a.entries)));
          leases = all.leases;
        };
        fits = omega (arith);
        steps = kept.steps;
        counted = kept.counted;
        added = kept.added;
      }

  pub ready_kept : IsKept (ready a)
  ready_kept = elim (length a.entries == most_entries) as (λ b. IsKept (cond b (cleared a) a)) [ true ↦ cleared_kept | false ↦ kept ]

  pub ready_fits : length (ready a).entries < most_entries
  ready_fits =
      elim (eqb_tells (length a.entries) most_entries) [
        | inl full ↦ subst (λ b. length (cond b (cleared a) a).entries < most_entries) (sym full.0) (omega (arith))
        | inr room ↦ subst (λ b. length (cond b (cleared a) a).entries < most_entries) (sym room.0) (omega (arith, kept.fits, room.1))
      ]

-- neither what is done nor the server changes by that
pub ready_same : (a : Account) → ((ready a).totals ≡ a.totals) × ((ready a).state ≡ a.state)
ready_same a =
    elim (length a.entries == most_entries) as (λ b. ((cond b (cleared a) a).totals ≡ a.totals) × ((cond b (cleared a) a).state ≡ a.state)) [
      | true ↦ (refl, refl)
      | false ↦ (refl, refl)
    ]

-- ---- grown

module _ (a : Account) (kept : IsKept a) where
  -- no sum passes what a book counts
  pub sums_fit : (c : Command) (t : ℕ) (r : Reply) (new : PlainServer) → ServerAnswers a.state c t (Ok r) new
      → (a.totals.counted + counted_by c r ≤ most_steps + 1) × (a.totals.added + added_by c r ≤ most_steps + 1) × (a.totals.removed + removed_by c r ≤ most_steps + 1)
  sums_fit c t r new answers =
      let accounts = answer_accounts a.state c t r new answers in
      let counted : a.totals.counted + counted_by c r ≤ most_steps + 1 = omega (arith, kept.steps, kept.counted, counted_at_most_one c r) in
      let added : a.totals.added + added_by c r ≤ most_steps + 1 = omega (arith, kept.steps, kept.added, accounts.1) in
      (counted, added, omega (arith, added, kept.lawful.leases, accounts.0))

  kept_grown : (pass : ℕ) (c : Command) (t : ℕ) (r : Reply) (new : PlainServer) → length a.entries < most_entries → a.totals.steps ≢ most_steps
      → ServerAnswers a.state c t (Ok r) new → IsKept (grown a (entry pass a.totals.steps c t r) new)
  kept_grown pass c t r new room counts answers =
      let e = entry pass a.totals.steps c t r in
      let all = kept.lawful in
      let accounts = answer_accounts a.state c t r new answers in
      record {
        lawful = record {
          start = all.start;
          dropped = all.dropped;
          opening = all.opening;
          came = all.came;
          came_numbered = all.came_numbered;
          first = all.first;
          run = runs_push a.base a.entries a.state e new all.run answers;
          numbered = numbered_push a.first a.entries e all.numbered (sym all.to_steps);
          to_steps = omega (arith, all.to_steps, length-append a.entries (e ∷ []));
          totals =
              ap (λ x. plus x (delta c r)) all.totals ∙ plus_assoc (tally_of all.dropped) (tally_of a.entries) (delta c r)
              ∙ ap (plus (tally_of all.dropped)) (sym (tally_push a.entries e));
          leases = omega (arith, all.leases, accounts.0);
        };
        fits = omega (arith, room, length-append a.entries (e ∷ []));
        steps = omega (arith, kept.steps, counts);
        counted = omega (arith, kept.counted, counted_at_most_one c r);
        added = omega (arith, kept.added, accounts.1);
      }

module _ (a : Account) (kept : IsKept a) where
  -- an entry more, where a journal that is full begins anew before
  pub kept_entered : (pass : ℕ) (c : Command) (t : ℕ) (r : Reply) (new : PlainServer) → a.totals.steps ≢ most_steps → ServerAnswers a.state c t (Ok r) new
      → IsKept (grown (ready a) (entry pass a.totals.steps c t r) new)
  kept_entered pass c t r new counts answers =
      let same = ready_same a in
      let steps = ap (λ x. x.steps) same.0 in
      subst (λ n. IsKept (grown (ready a) (entry pass n c t r) new)) steps
      (kept_grown (ready a) (ready_kept a kept) pass c t r new (ready_fits a kept) (λ full. counts (sym steps ∙ full)) (subst (λ p. ServerAnswers p c t (Ok r) new) (sym same.1) answers))

-- ---- by the parts of a book

module _ (j : Journal) (totals : Tally) (p : Plain) (boxes : List Boxed) where
  -- a journal that begins where the book is
  pub begins : (next : Journal) → BeginsAt totals.steps (queues_of boxes) next → account_with next totals p boxes ≡ cleared (account_with j totals p boxes)
  begins next at = λ i. let a : Account = record {
    base = of.server (undone_all (at.entries i) (at.undos i) p) (at.waiting i);
    first = at.first i;
    entries = at.entries i;
    state = server_with p boxes;
    totals = totals;
  } in a

  -- the journal that an entry is added to
  is_ready : (s : Journal) (anew : Bool) → anew ≡ (length j.entries.items == most_entries) → (anew ≡ true → BeginsAt totals.steps (queues_of boxes) s)
      → account_with (begun anew s j) totals p boxes ≡ ready (account_with j totals p boxes)
  is_ready s false full at = ap (λ b. cond b (cleared (account_with j totals p boxes)) (account_with j totals p boxes)) full
  is_ready s true full at = begins s (at refl) ∙ ap (λ b. cond b (cleared (account_with j totals p boxes)) (account_with j totals p boxes)) full

  -- an entry more, with what its step replaced
  grows : (new : Journal) (e : Entry) (u : Undo) (sum : Tally) (q : Plain) (others : List Boxed) → IsPaired j → new.first ≡ j.first → new.queues ≡ j.queues
      → new.entries.items ≡ j.entries.items ++ e ∷ [] → new.undos.items ≡ j.undos.items ++ u ∷ [] → sum ≡ plus totals (delta e.command e.reply) → undone e.command u q ≡ p
      → account_with new sum q others ≡ grown (account_with j totals p boxes) e (server_with q others)
  grows new e u sum q others paired first queues entries undos sum_is leads =
      let back = (λ i. undone_all (entries i) (undos i) q) ∙ undone_all-push j.entries.items j.undos.items e u q paired ∙ ap (undone_all j.entries.items j.undos.items) leads in
      λ i. let a : Account = record { base = of.server (back i) (queues i); first = first i; entries = entries i; state = server_with q others; totals = sum_is i } in a

-- journals that have the same in them give one account
same_account : (j k : Journal) (totals : Tally) (p : Plain) (boxes : List Boxed) → IsSame j k → account_with j totals p boxes ≡ account_with k totals p boxes
same_account j k totals p boxes same = λ i. let a : Account = record {
  base = of.server (undone_all (same.entries i) (same.undos i) p) (same.queues i);
  first = same.first i;
  entries = same.entries i;
  state = server_with p boxes;
  totals = totals;
} in a

-- what was replaced is kept for each entry of a journal that begins
pub begins_paired : (j : Journal) (steps : ℕ) (queues : List Queue) → BeginsAt steps queues j → IsPaired j
begins_paired j steps queues at = ap length at.undos ∙ sym (ap length at.entries)

begun_paired : (anew : Bool) (s j : Journal) (steps : ℕ) (queues : List Queue) → IsPaired j → (anew ≡ true → BeginsAt steps queues s) → IsPaired (begun anew s j)
begun_paired false s j steps queues paired at = paired
begun_paired true s j steps queues paired at = begins_paired s steps queues (at refl)

-- a journal as it was, as it is with room made, the spare one, which begins anew where it was full, and the one with the entry of a command and what its step replaced
module _ (j mid new : Journal) (totals : Tally) (p : Plain) (boxes : List Boxed) (s : Journal) (anew : Bool) (e : Entry) (u : Undo) (paired : IsPaired j) (same : IsSame mid j)
    (full : anew ≡ (length j.entries.items == most_entries)) (at : anew ≡ true → BeginsAt totals.steps (queues_of boxes) s)
    (entries : new.entries.items ≡ (begun anew s mid).entries.items ++ e ∷ []) (undos : new.undos.items ≡ (begun anew s mid).undos.items ++ u ∷ []) where
  still_paired : IsPaired (begun anew s mid)
  still_paired = begun_paired anew s mid totals.steps (queues_of boxes) (ap length same.undos ∙ paired ∙ sym (ap length same.entries)) at

  pub entered_paired : IsPaired new
  entered_paired =
      omega (arith, ap length undos, ap length entries, length-append (begun anew s mid).undos.items (u ∷ []), length-append (begun anew s mid).entries.items (e ∷ []), still_paired)

  pub entered : (sum : Tally) (q : Plain) (others : List Boxed) → new.first ≡ (begun anew s mid).first → new.queues ≡ (begun anew s mid).queues → sum ≡ plus totals (delta e.command e.reply)
      → undone e.command u q ≡ p → account_with new sum q others ≡ grown (ready (account_with j totals p boxes)) e (server_with q others)
  entered sum q others first queues sum_is leads =
      let full_mid = full ∙ ap (λ es. length es == most_entries) (sym same.entries) in
      let readied = is_ready mid totals p boxes s anew full_mid at ∙ ap ready (same_account mid j totals p boxes same) in
      grows (begun anew s mid) totals p boxes new e u sum q others still_paired first queues entries undos sum_is leads ∙ ap (λ a. grown a e (server_with q others)) readied

-- ---- refused

pub differs : (m n : ℕ) → m ≢ n → eqb m n ≡ false
differs m n ne = elim (eqb_tells m n) [ inl same ↦ absurd (ne same.1) | inr apart ↦ apart.0 ]

-- of a refusal that the registry makes
refusal : (first : Option Fault) (f : Fault) → IsRefusal first f → (f ≡ OutOfMemory) ⊎ (first ≡ Some f)
refusal None f is = inl is
refusal (Some g) f is = inr (ap Some (sym is))

refuses : (a : Account) (c : Command) (t : ℕ) (f : Fault) → a.totals.steps ≢ most_steps → ServerAnswers a.state c t (Err f) a.state → Refuses a c t f
unfolding ServerAnswers IsServerAnswer
refuses a c t f room answers s at =
    subst (λ b. (f ≡ OutOfMemory) ⊎ (cond b (Some Exhausted) (server_fault s c t) ≡ Some f)) (sym (differs a.totals.steps most_steps room)) (refusal (server_fault s c t) f (answers s at).0)

pub may_refuse : (a : Account) (c : Command) (t : ℕ) (f : Fault) → a.totals.steps ≢ most_steps → MayRefuse a.state c t f → Refuses a c t f
may_refuse a c t f room (inl memory) = λ s at. inl memory
may_refuse a c t f room (inr answers) = refuses a c t f room answers

pub alike : (m n : ℕ) → m ≡ n → eqb m n ≡ true
alike m n is = elim (eqb_tells m n) [ inl same ↦ same.0 | inr apart ↦ absurd (apart.1 is) ]

pub is_refused : (a : Account) (c : Command) (t : ℕ) (f : Fault) → IsRefused a.totals.steps a.state c t f → Refuses a c t f
is_refused a c t f (inl (full, is)) = λ s at. inr (subst (λ b. cond b (Some Exhausted) (server_fault s c t) ≡ Some f) (sym (alike a.totals.steps most_steps full)) (ap Some (sym is)))
is_refused a c t f (inr (room, may)) = may_refuse a c t f room may
