-- The account of a book by its parts, and a journal that begins anew before an entry, or goes on as it is
use Rattle.std.specs.Prelude.{◌≡◌, ℕ, Bool, ◌<◌, List, [], length, vec_len, if◌then◌else◌}
use Rattle.std.specs.Vec.{vec_capacity}
use Rattle.eu_model.specs.declared.queues.Queue.{Queue}
use Rattle.eu_model.specs.declared.tallies.Tally.{Tally}
use Rattle.eu_model.specs.Plain.{Plain}
use Rattle.eu_model.specs.Server.{PlainServer}
use Rattle.eu_outbox.specs.Boxed.{Boxed}
use Rattle.eu_book.specs.declared.journal.Journal.{Journal}
use Rattle.eu_book.specs.Account.{Account}
use Rattle.eu_book.specs.Peers.{server_with}
use Rattle.eu_book.specs.Undone.{undone_all}

-- the base of a journal that leads to this registry: what that was before the entries, with what waited for the peers then
abbrev pub base_with : Journal → Plain → PlainServer
base_with j p = record { registry = undone_all j.entries.items j.undos.items p; queues = j.queues }

-- the account of a journal, of totals, and of a registry and outboxes as they are
abbrev pub account_with : Journal → Tally → Plain → List Boxed → Account
account_with j totals p boxes = record {
  base = base_with j p;
  first = j.first;
  entries = j.entries.items;
  state = server_with p boxes;
  totals = totals;
}

-- what was replaced is kept for each entry
abbrev pub IsPaired : Journal → Type 0
IsPaired j = length j.undos.items ≡ length j.entries.items

-- there is room for an entry more, and for what it replaces
abbrev pub HasRoom : Journal → Type 0
HasRoom j = (vec_len j.entries < vec_capacity j.entries) × (vec_len j.undos < vec_capacity j.undos)

-- both have the same in them, whatever their room
pub record IsSame (j k : Journal) : Type 0 where
  pub first : j.first ≡ k.first
  pub queues : j.queues ≡ k.queues
  pub entries : j.entries.items ≡ k.entries.items
  pub undos : j.undos.items ≡ k.undos.items

-- room for the entries of a journal: it has none yet
pub record IsRoom (j : Journal) : Type 0 where
  pub entries : j.entries.items ≡ []
  pub undos : j.undos.items ≡ []
  pub room : HasRoom j

-- a journal that begins after so many steps, when so much waits for the peers: it has no entry yet, and room for one
pub record BeginsAt (steps : ℕ) (queues : List Queue) (j : Journal) : Type 0 where
  pub first : j.first ≡ steps
  pub waiting : j.queues ≡ queues
  pub entries : j.entries.items ≡ []
  pub undos : j.undos.items ≡ []
  pub room : HasRoom j

-- the journal that an entry is added to: the spare one, where it begins anew
abbrev pub begun : Bool → Journal → Journal → Journal
begun anew spare j = if anew then spare else j

-- the journal of an account
pub record IsJournal (a : Account) (j : Journal) : Type 0 where
  pub first : j.first ≡ a.first
  pub entries : j.entries.items ≡ a.entries
