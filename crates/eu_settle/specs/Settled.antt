-- Whether the logs of the passes are their parts of the entries
use Rattle.std.specs.Prelude.{◌≡◌, ◌≢◌, ℕ, ◌<◌, ◌^◌, ◌==◌, List, [], ◌∷◌, nat_le, if◌then◌else◌, slice_get, take}
use Rattle.eu_book.specs.declared.journal.Logged.{Logged}
use Rattle.eu_model.specs.declared.commands.Entry.{Entry}
use Rattle.eu_settle.specs.declared.closed.PassLog.{PassLog}

-- what is logged of an entry
abbrev pub logged_of : Entry → Logged
logged_of e = record { command = e.command; moment = e.moment; reply = e.reply; number = e.number }

-- the part of a pass: its entries, in order
abbrev pub part_of : ℕ → List Entry → List Logged
part_of pass [] = []
part_of pass (e ∷ es) = if e.pass == pass then logged_of e ∷ part_of pass es else part_of pass es

-- a log from a number on
abbrev pub from_first : ℕ → List Logged → List Logged
from_first first [] = []
from_first first (l ∷ ls) = if nat_le first l.number then l ∷ from_first first ls else from_first first ls

-- the log of a pass: the first of its number, or an empty one
abbrev pub log_at : ℕ → List PassLog → List Logged
log_at pass [] = []
log_at pass (l ∷ ls) = if l.pass == pass then l.log.items else log_at pass ls

-- the log of a pass, from the first entry on, is its part
abbrev pub IsSettledAt : ℕ → List PassLog → List Entry → ℕ → Type 0
IsSettledAt first logs entries pass = from_first first (log_at pass logs) ≡ part_of pass entries

abbrev pub IsSettled : ℕ → List PassLog → List Entry → Type 0
IsSettled first logs entries = (pass : ℕ) → pass < 2 ^ 64 → IsSettledAt first logs entries pass

-- the first place where two lists differ
pub record DiffersFirst (place : ℕ) (xs ys : List Logged) : Type 0 where
  pub before : take place xs ≡ take place ys
  pub there : slice_get xs place ≢ slice_get ys place

-- the first pass whose log isn't its part, and the first place where they differ
pub record IsMismatch (first : ℕ) (logs : List PassLog) (entries : List Entry) (pass place : ℕ) : Type 0 where
  pub earlier : (n : ℕ) → n < pass → IsSettledAt first logs entries n
  pub differs : DiffersFirst place (from_first first (log_at pass logs)) (part_of pass entries)
