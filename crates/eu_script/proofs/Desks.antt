-- What a book answers to the lines of a script, against a run of the server
use Rattle.std.proofs.Common.{◌≡◌, ◌≢◌, ℕ, Bool, List, [], ◌∷◌, ◌++◌, length, length-append, Option, Some, None, Result, Ok, Err, OnOk, OnErr, IfOk, IfErr, refl, sym, ◌∙◌, ap, subst, inl, inr, arith, append_assoc, cond, eqb, suc, true, false}
use Rattle.std.proofs.lemmas.Bool.{eqb-true, eqb-false}
use Rattle.std.specs.Prelude.{◌==◌, if◌then◌else◌}
use Rattle.eu_base.specs.declared.faults.Fault.{Fault}
use Rattle.eu_base.specs.declared.settings.Config.{Config}
use Rattle.eu_base.specs.declared.faults.Fault.TheVariants.{OutOfMemory, Exhausted}
use Rattle.eu_book.specs.declared.book.Receipt.{Receipt}
use Rattle.eu_book.specs.Account.{Account, Applies, Refuses, cleared, entry, ready}
use Rattle.eu_base.specs.Limits.{most_entries, most_steps}
use Rattle.eu_book.proofs.BookLemmas.{differs, ready_same}
use Rattle.eu_core.specs.Stepped.{Chooses}
use Rattle.eu_lines.specs.declared.faults.LineError.{LineError}
use Rattle.eu_lines.specs.Script.{Place, place}
use Rattle.eu_model.specs.declared.commands.Command.{Command}
use Rattle.eu_model.specs.declared.commands.Command.TheVariants as command
use Rattle.eu_model.specs.declared.commands.Entry.{Entry}
use Rattle.eu_model.specs.declared.commands.Reply.{Reply}
use Rattle.eu_model.specs.declared.commands.Reply.TheVariants.{Evicted}
use Rattle.eu_model.specs.Answers.{Shows, ServerAnswers, IsServerAnswer}
use Rattle.eu_model.specs.Machine.{Machine}
use Rattle.eu_model.specs.Plain.{Plain, plain}
use Rattle.eu_model.specs.Server as model
use Rattle.eu_model.specs.Server.{Server, ServerStep, plain_server, server_fault}
use Rattle.eu_model.specs.View.{counts, listing, status_counts}
use Rattle.eu_model.proofs.RunLemmas.{run_push}
use Rattle.eu_page.specs.Page.{shown_page}
use Rattle.eu_script.specs.declared.desk.ScriptDesk.{ScriptDesk}
use Rattle.eu_script.specs.Audit.{Journals}
use Rattle.eu_script.specs.ScriptDesk.{Holds, HoldsRun, DeskAnswers, ClosedAnswers, OpenedAnswers, AccountDoes}
use Rattle.eu_script.specs.Script.{Ran, Does, Draws, Sees, Says, opened_with}
use Rattle.eu_script.specs.Texts.{answer_text, settled_text}
use Rattle.eu_words.specs.Lines.{line_of}
use Rattle.eu_words.specs.declared.lines.Line.{Line}
use Rattle.eu_words.specs.declared.lines.Line.TheVariants.{Page}

-- the run with one entry more
abbrev and_then : (r : Ran) (e : Entry) (mid : Server) → server_fault r.server e.command e.moment ≡ None → ServerStep r.server e.command e.moment e.reply mid → Ran
and_then r e mid none step = record {
  config = r.config;
  opened = r.opened;
  peers = r.peers;
  entries = r.entries ++ e ∷ [];
  server = mid;
  runs = run_push (model.opened r.config r.opened r.peers) r.entries r.server e mid r.runs none step;
}

-- a registry that was just opened has an empty journal
pub unopened : (config : Config) (n peers : ℕ) → Journals (opened_with config n peers) (plain_server (model.opened config n peers)) []
unopened config n peers = record {
  dropped = [];
  checkpoints = 0;
  whole = refl;
  came = record { from = model.opened config n peers; to = model.opened config n peers; begins = refl; ends = refl; run = refl };
  full = refl;
  fits = omega arith;
  some = λ none. omega (arith, none);
}

-- the run with one entry more has the account's journal with that entry more, which begins anew before where it is full
journals : (a : Account) (r : Ran) (e : Entry) (mid : Server) (none : server_fault r.server e.command e.moment ≡ None) (step : ServerStep r.server e.command e.moment e.reply mid)
    → Holds a r → Journals (and_then r e mid none step) (ready a).base ((ready a).entries ++ e ∷ [])
journals a r e mid none step h =
    let j = h.journal in
    let lengths = ap length j.whole ∙ length-append j.dropped a.entries in
    elim (length a.entries == most_entries) as (λ b. eqb (length a.entries) most_entries ≡ b → Journals (and_then r e mid none step) (cond b (cleared a) a).base ((cond b (cleared a) a).entries ++ e ∷ [])) [
      | true ↦ λ full.
          let at_most = eqb-true (length a.entries) most_entries full in
          record {
            dropped = r.entries;
            checkpoints = suc j.checkpoints;
            whole = refl;
            came = record { from = model.opened r.config r.opened r.peers; to = r.server; begins = refl; ends = sym h.state; run = r.runs };
            full = omega (arith, lengths, j.full, at_most);
            fits = omega arith;
            some = λ _. omega arith;
          }
      | false ↦ λ room.
          let below = eqb-false (length a.entries) most_entries room in
          let more = length-append a.entries (e ∷ []) in
          record {
            dropped = j.dropped;
            checkpoints = j.checkpoints;
            whole = ap (λ l. l ++ e ∷ []) j.whole ∙ append_assoc j.dropped a.entries (e ∷ []);
            came = j.came;
            full = j.full;
            fits = omega (arith, j.fits, below, more);
            some = λ _. omega (arith, more);
          }
    ] refl

-- the registry of an account is the plain form of the machine in each of its runs
registry_is : (a : Account) (r : Ran) → Holds a r → plain r.server.machine ≡ a.state.registry
registry_is a r h = ap (λ p. p.registry) (sym h.state)

module _ {C : Type 0} (asks : C → ℕ → ℕ × C) (x : C) where
  -- what is drawn of a plain form is drawn of each machine of that form
  draws : (p : Plain) (s : Machine) (x' : C) (c : Command) (t : ℕ) (reply : Reply) → plain s ≡ p → Chooses asks p x c t reply x' → Draws asks s x c t reply x'
  draws p s x' command.Evict t reply e chooses = let d = chooses.2 s e in (chooses.1 ∙ ap Evicted d.0, d.1)
  draws p s x' c t reply e chooses = chooses

  module _ (a b : Account) (x' : C) (c : Command) (t : ℕ) (out : List ℕ) where
    -- a command that is accepted is the next entry of each run of that account
    accepted : (receipt : Receipt) → Applies asks a x (entry 0 receipt.number c t receipt.reply) b x' → out ≡ answer_text (settled_text c) (Ok receipt)
        → (r : Ran) → Holds a r → (next : Ran) × Does asks (place r x) c t out (place next x') × Holds b next
    unfolding ServerAnswers IsServerAnswer
    accepted receipt applies text r h =
        let e = entry 0 receipt.number c t receipt.reply in
        let step = applies.step r.server (sym h.state) in
        let counts : length r.entries ≢ most_steps = λ full. omega (arith, applies.counts, h.steps, full) in
        let before = ap (λ y. y.steps) (ready_same a).0 in (
          and_then r e step.1.0 step.0 step.1.1,
          inl (e, refl, refl, refl, applies.numbered ∙ h.steps, differs (length r.entries) most_steps counts, (refl, refl, refl, refl, step.0, step.1.1), draws a.state.registry r.server.machine x' c t receipt.reply (registry_is a r h) applies.chooses, text),
          record {
            steps = omega (arith, ap (λ y. y.totals.steps) applies.whole, before, h.steps, length-append r.entries (e ∷ []));
            state = sym step.1.2;
            journal = rw applies.whole (journals a r e step.1.0 step.0 step.1.1 h);
          },
        )

    -- one that is refused, but not for want of memory, is refused in each of those runs
    refused : (f : Fault) → Refuses a c t f → b ≡ a → x' ≡ x → f ≢ OutOfMemory → out ≡ answer_text (settled_text c) (Err f)
        → (r : Ran) → Holds a r → (next : Ran) × Does asks (place r x) c t out (place next x') × Holds b next
    refused f refuses same unasked known text r h = elim (refuses r.server (sym h.state)) [
      | inl e ↦ absurd (known e)
      | inr first ↦ (r, inr (f, subst (λ n. (if n == most_steps then Some Exhausted else server_fault r.server c t) ≡ Some f) h.steps first, text, ap (place r) unasked), subst (λ y. Holds y r) (sym same) h)
    ]

    does : (answer : Result Receipt Fault) → IfOk answer (λ receipt. Applies asks a x (entry 0 receipt.number c t receipt.reply) b x') → IfErr answer (λ f. Refuses a c t f)
        → OnErr answer (b ≡ a) → OnErr answer (x' ≡ x) → answer ≢ Err OutOfMemory → out ≡ answer_text (settled_text c) answer
        → (r : Ran) → Holds a r → (next : Ran) × Does asks (place r x) c t out (place next x') × Holds b next
    does (Ok receipt) applies refuses same unasked known text = accepted receipt applies text
    does (Err f) applies refuses same unasked known text = refused f refuses same unasked (λ e. known (ap Err e)) text

    -- what is printed is done so
    pub told : (answer : Result Receipt Fault) (r : Result (Unit {0}) LineError)
        → IfOk answer (λ receipt. Applies asks a x (entry 0 receipt.number c t receipt.reply) b x') → IfErr answer (λ f. Refuses a c t f)
        → OnErr answer (b ≡ a) → OnErr answer (x' ≡ x) → OnOk r (answer ≢ Err OutOfMemory) → OnOk r (out ≡ answer_text (settled_text c) answer)
        → OnOk r (AccountDoes asks (place a x) c t out (place b x'))
    told answer (Err e) applies refuses same unasked known text = tt
    told answer (Ok u) applies refuses same unasked known text = does answer applies refuses same unasked known text

  -- a view that is printed is what is seen of each run of that account
  pub sees : {V : Type 0} (a : Account) (see : Machine → V) (text : V → List ℕ) (out : List ℕ) (value : V) → Shows a.state.registry see value → out ≡ text value
      → (r : Ran) → Holds a r → (next : Ran) × Sees (place r x) (λ s. text (see s)) out (place next x) × Holds a next
  sees a see text out value shows is r h = (r, (is ∙ ap text (shows r.server.machine (registry_is a r h)), refl), h)

  -- the same of the status page
  pub pages : (a : Account) (t : ℕ) (r : Result (Unit {0}) LineError) (out : List ℕ) → OnOk r (Shows a.state.registry (λ s. shown_page (counts s) (status_counts (listing None s))) out)
      → OnOk r (OpenedAnswers asks (Page t) (place a x) out (place a x))
  pages a t (Err e) out shows = tt
  pages a t (Ok u) out shows = λ r h. (r, (shows r.server.machine (registry_is a r h), refl), h)

module _ {C : Type 0} (asks : C → ℕ → ℕ × C) (x : C) (d d' : ScriptDesk) (text out : List ℕ) where
  -- a line once the registry is open
  pub opened : (a b : Account) (x' : C) (line : Line) (r : Result (Unit {0}) LineError) → line_of text ≡ Some line → d.book ≡ Some a → d'.config ≡ d.config → d'.book ≡ Some b
      → OnOk r (OpenedAnswers asks line (place a x) out (place b x')) → OnOk r (DeskAnswers asks (place d x) text out (place d' x'))
  opened a b x' line (Err e) says before same after answers = tt
  opened a b x' line (Ok u) says before same after answers = (same, λ s k. rw (says, after) (at s (rw before at k))) where
    at : (s : Option Ran) → HoldsRun (Some a) s → (end : Option Ran) × Says d.config asks (Some line) s x out (place end x') × HoldsRun (Some b) end
    at None k = absurd k
    at (Some r) k = let n = answers r k in (Some n.0, (place n.0 x', n.1, refl), n.2)

  -- a line before that
  pub closed : (line : Line) (r : Result (Unit {0}) LineError) → line_of text ≡ Some line → d.book ≡ None
      → OnOk r (ClosedAnswers d line out d') → OnOk r (DeskAnswers asks (place d x) text out (place d' x))
  closed line (Err e) says before answers = tt
  closed line (Ok u) says before answers = (answers.2, λ s k. rw says (at s (rw before at k))) where
    at : (s : Option Ran) → HoldsRun None s → (end : Option Ran) × Says d.config asks (Some line) s x out (place end x) × HoldsRun d'.book end
    at None k = (Some answers.0, (answers.0, answers.1, refl), answers.3)
    at (Some r) k = absurd k
