-- What a book comes to that sessions ask
use Rattle.std.specs.Prelude.{◌≡◌, ℕ, ◌+◌, Bool, List, [], ◌∷◌, ◌++◌, length, Option, Some, Result, Ok, Err}
use Rattle.eu_base.specs.declared.faults.Fault.{Fault}
use Rattle.eu_book.specs.Account.{Account, entry}
use Rattle.eu_book.specs.Desk.{BookAsks}
use Rattle.eu_model.specs.declared.asks.Answer.{Answer}
use Rattle.eu_model.specs.declared.asks.Answer.TheVariants.{Did}
use Rattle.eu_model.specs.declared.asks.Ask.{Ask}
use Rattle.eu_model.specs.declared.asks.Ask.TheVariants.{Do}
use Rattle.eu_http.specs.declared.exchange.Outcome.{Outcome}
use Rattle.eu_http.specs.declared.exchange.Outcome.TheVariants.{Refused, Forbidden, Answers}
use Rattle.eu_http.specs.declared.policy.Policy.{Policy}
use Rattle.eu_http.specs.Asks.{Wants, asks_of}
use Rattle.eu_model.specs.declared.commands.Entry.{Entry}
use Rattle.eu_model.specs.Server.{Server, PlainServer, Run, plain_server}
use Rattle.eu_session.specs.declared.faults.SessionFault.{SessionFault}
use Rattle.eu_model.specs.Chain.{Chain}
use Rattle.eu_session.specs.Session.{Session, Streams, Standing, Turn, Step}

-- what an ask at a moment adds to the journal, by its answer: the entry of a command that was answered, with the pass 0 and the number n
abbrev pub entry_of : ℕ → ℕ → Ask → Result Answer Fault → List Entry
entry_of n t (Do c) (Ok (Did reply)) = entry 0 n c t reply ∷ []
entry_of n t _ _ = []

-- what asks add, one after another, by their answers; the first entry has the number n
abbrev pub entries_of : ℕ → ℕ → List Ask → List (Result Answer Fault) → List Entry
entries_of n t [] results = []
entries_of n t (ask ∷ asks) [] = []
entries_of n t (ask ∷ asks) (r ∷ rs) = entry_of n t ask r ++ entries_of (n + length (entry_of n t ask r)) t asks rs

-- what a turn adds: nothing, where its request asked nothing
abbrev pub AddsTurn : Policy → ℕ → Turn → Outcome → List Entry → Type 0
AddsTurn policy n t (Refused fault) entries = entries ≡ []
AddsTurn policy n t Forbidden entries = entries ≡ []
AddsTurn policy n t (Answers wanted results) entries =
    (wants : Wants) × (asks_of policy t.request t.moment ≡ Ok (Some wants)) × (entries ≡ entries_of n t.moment wants.asks results.items)

-- what turns add, one after another
abbrev pub AddTurns : Policy → ℕ → List Turn → List Entry → Type 0
AddTurns policy n [] entries = entries ≡ []
AddTurns policy n (t ∷ ts) entries =
    (here : List Entry) × (others : List Entry) × (entries ≡ here ++ others) × AddsTurn policy n t t.outcome here × AddTurns policy (n + length here) ts others

-- from each server with the plain form p, the entries are a run to one with the plain form q
abbrev pub RunsFrom : PlainServer → List Entry → PlainServer → Type 0
RunsFrom p entries q = (s : Server) → plain_server s ≡ p → (s' : Server) × Run s entries s' × (plain_server s' ≡ q)

-- A book goes on by these entries, which are a run from what the registry and its peers' queues were to what they are. Its journal has them behind those
-- that it had, but for the first ones, which it may have dropped: it begins where it did, where it dropped none
pub record GrewBy (a : Account) (entries : List Entry) (b : Account) : Type 0 where
  pub dropped : List Entry
  pub more : dropped ++ b.entries ≡ a.entries ++ entries
  pub begins : dropped ≡ [] → (b.base ≡ a.base) × (b.first ≡ a.first)
  pub steps : b.totals.steps ≡ a.totals.steps + length entries
  pub run : RunsFrom a.state entries b.state

module _ {C : Type 0} (policy : Policy) (tells : C → ℕ → C → Type 0) where
  -- by turns with a book, its journal goes on by the commands that were answered in them, in order
  abbrev pub BookTurns : Type 0
  BookTurns =
      (old new : Standing Account C) (turns : List Turn) → Chain (Step policy (λ a ask t r b. BookAsks a ask t r b) tells) old turns new
      → (entries : List Entry) × AddTurns policy old.desk.totals.steps turns entries × GrewBy old.desk entries new.desk

  -- by a session with a book its journal goes on, however it ends
  abbrev pub BookSession : Type 0
  BookSession =
      (old new : Standing Account C) (s : Streams) (result : Result ℕ SessionFault)
      → Session policy (λ a ask t r b. BookAsks a ask t r b) tells old new s result
      → (entries : List Entry) × GrewBy old.desk entries new.desk
