-- What a server leaves of its journal
use Rattle.std.specs.Prelude.{◌≡◌, ◌⊎◌, ℕ, Bool, true, List, take, Option}
use Rattle.std.specs.Io.KnownBytes.{Appends, Keeps}
use Rattle.eu_base.specs.declared.faults.Fault.{Fault}
use Rattle.eu_base.specs.declared.faults.Fault.TheVariants.{Write}
use Rattle.eu_book.specs.Account.{IsLawful}
use Rattle.eu_book.specs.Peers.{state_of}
use Rattle.eu_journal_text.specs.Text.{journal_text}
use Rattle.eu_server.specs.Ends.{IsEnd}
use Rattle.eu_settle.specs.declared.closed.Closed.{Closed}
use Rattle.eu_shared.specs.Closing.{account_of}

-- the text of a closed book's journal: its base, its entries, and where it ended
abbrev pub closed_text : Closed → List ℕ
closed_text c = journal_text c.base c.entries.items c.end

-- such a text, of a book that came lawfully as far as it says
abbrev pub IsJournal : List ℕ → Type 0
IsJournal text =
    (c : Closed) × IsLawful (account_of c) × (c.base ≡ state_of (account_of c).base) × (c.end ≡ state_of (account_of c).state) × (text ≡ closed_text c)

-- What a server that ended by this fault wrote to its journal, which held old and holds new now. The flag says whether the journal's writer
-- failed; `kept` is that nothing else was written
abbrev pub IsUntold : Type 0 → Bool → Option (List ℕ) → Option (List ℕ) → Fault → Type 0
IsUntold kept failed old new f =
    -- nothing at all was written
    (IsEnd f × kept × Keeps old new)
    -- a front of the text was, and nothing else; or all of the text, and the line that is to follow wasn't told
    ⊎ ((f ≡ Write) × (text : List ℕ) × IsJournal text × ((kept × (failed ≡ true) × (k : ℕ) × Appends old new (take k text)) ⊎ Appends old new text))
