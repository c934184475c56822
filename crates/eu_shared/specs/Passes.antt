-- Passes and the shared book, as contracts see them
use Rattle.std.specs.Prelude.{◌≡◌, ℕ, List, [], ◌∷◌, ◌++◌, ◌≤◌, max, None, Option}
use Rattle.eu_base.specs.declared.faults.Fault.{Fault}
use Rattle.eu_base.specs.declared.faults.Fault.TheVariants.{OutOfMemory}
use Rattle.eu_book.specs.declared.journal.Logged.{Logged}
use Rattle.eu_book.specs.Account.{Account, Applies, IsLawful, Refuses, known_fault, opened}
use Rattle.eu_base.specs.declared.settings.Config.{Config}
use Rattle.eu_clock.specs.Front.{Asks}
use Rattle.eu_model.specs.declared.commands.Command.{Command}
use Rattle.eu_model.specs.declared.commands.Entry.{Entry}
use Rattle.eu_model.specs.declared.tallies.Tally.{Tally}
use Rattle.eu_model.specs.declared.views.Gauges.{Gauges}
use Rattle.eu_model.specs.declared.views.Query.{Query}
use Rattle.eu_model.specs.declared.views.View.{View}
use Rattle.eu_model.specs.Answers.{Shows}
use Rattle.eu_model.specs.Delta.{delta, nothing, plus}
use Rattle.eu_model.specs.View as model_view
use Rattle.eu_store.specs.Brief.{ListsBriefly}
use Rattle.eu_settle.specs.Settled.{from_first}

-- a pass: its number, what it was answered, what that did, and the greatest `first` that it has seen
pub record PassAccount : Type 0 where
  pub number : ℕ
  pub log : List Logged
  pub tally : Tally
  pub journal_first : ℕ

-- the shared book, and how many passes were made
pub record Holding : Type 0 where
  pub book : Account
  pub pass_count : ℕ

-- as it is opened, for so many peers
abbrev pub opening : Config → ℕ → ℕ → Holding
opening config expected peers = record { book = opened config expected peers; pass_count = 0 }

-- a pass that was just made
abbrev pub new_pass : ℕ → PassAccount
new_pass n = record { number = n; log = []; tally = nothing; journal_first = 0 }

-- a pass that was answered, by a journal that begins at `first`
abbrev pub after_answer : PassAccount → Logged → ℕ → PassAccount
after_answer p l first = record { number = p.number; log = p.log ++ l ∷ []; tally = plus p.tally (delta l.command l.reply); journal_first = max p.journal_first first }

-- a pass that was shown a state, of a journal that begins at `first`
abbrev pub after_view : PassAccount → ℕ → PassAccount
after_view p first = record { number = p.number; log = p.log; tally = p.tally; journal_first = max p.journal_first first }

-- a pass whose log has no more what lies before the greatest `first` that it has seen
abbrev pub trimmed : PassAccount → PassAccount
trimmed p = record { number = p.number; log = from_first p.journal_first p.log; tally = p.tally; journal_first = p.journal_first }

-- what was done for all these passes
abbrev pub done_for : List PassAccount → Tally
done_for [] = nothing
done_for (p ∷ ps) = plus p.tally (done_for ps)

-- ---- what is known of an answer, where the book behind the lock isn't

-- some lawful book answers the pass with this entry, and is lawful after; the pass has then seen where its journal begins
abbrev pub IsAnsweredBySome : {S : Type 0} → Asks S → S → PassAccount → Entry → S → PassAccount → Type 0
IsAnsweredBySome asks x p e x' p' =
    (before : Account) × (after : Account) × IsLawful before × IsLawful after × Applies asks before x e after x' × (p'.journal_first ≡ max p.journal_first after.first)

-- some lawful book refuses it so, where want of memory hides no fault that needs none to be known
abbrev pub IsRefusedBySome : Command → ℕ → Fault → Type 0
IsRefusedBySome c t f = (a : Account) × IsLawful a × Refuses a c t f × (f ≡ OutOfMemory → known_fault a.totals.steps a.state.queues c t ≡ None)

-- some lawful book, of at least the pass's own steps, shows it to the pass, which has then seen where its journal begins
abbrev pub IsShownBySome : PassAccount → Query → ℕ → View → PassAccount → Type 0
IsShownBySome p q t v p' = (a : Account) × IsLawful a × (p.tally.steps ≤ a.totals.steps) × Shows a.state.registry (λ s. model_view.view s q t) v × (p'.journal_first ≡ max p.journal_first a.first)

-- some lawful book has these counts, and so many leases due
abbrev pub IsSeenOfSome : ℕ → Gauges → Type 0
IsSeenOfSome t g = (a : Account) × IsLawful a × Shows a.state.registry (λ s. model_view.gauges s t) g

-- some lawful book's steps did so much
abbrev pub IsDoneInSome : Tally → Type 0
IsDoneInSome t = (a : Account) × IsLawful a × (a.totals ≡ t)

-- some lawful book lists few leases of an application, or in all where none is given, and each is short
abbrev pub IsBriefInSome : ℕ → ℕ → Option (List ℕ) → Type 0
IsBriefInSome few short app = (a : Account) × IsLawful a × ListsBriefly few short app a.state.registry

-- some lawful book's journal begins anew for the pass, which has then seen where: after all steps
abbrev pub IsBegunBySome : PassAccount → PassAccount → Type 0
IsBegunBySome p p' = (a : Account) × IsLawful a × (p'.journal_first ≡ max p.journal_first a.totals.steps)
