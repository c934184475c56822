-- The lines of a journal, and its text
use Rattle.std.specs.Prelude.{◌≡◌, ◌≤◌, ℕ, List, [], ◌∷◌, ◌++◌, map, Some}
use Rattle.std.specs.Str.{IsUtf8}
use Rattle.hex.specs.Hex.{encode_lower}
use Rattle.serde_json.specs.Data.{depth}
use Rattle.serde_json.specs.Read.{max_depth, read}
use Rattle.serde_json.specs.Written.{compact_text}
use Rattle.sha2.specs.Sha256.{sha256}
use Rattle.eu_base.specs.declared.statuses.Status.{Status}
use Rattle.eu_model.specs.declared.commands.Entry.{Entry}
use Rattle.eu_model.specs.declared.commands.Reply.{Reply}
use Rattle.eu_model.specs.declared.commands.Reply.TheVariants as reply
use Rattle.eu_model.specs.declared.queues.Queue.{Queue}
use Rattle.eu_model.specs.declared.states.State.{State}
use Rattle.eu_journal.specs.Lines.{line_tree}
use Rattle.eu_journal.specs.declared.lines.Head.{Head}
use Rattle.eu_journal.specs.declared.lines.JournalLine.{JournalLine}
use Rattle.eu_journal.specs.declared.lines.JournalLine.TheVariants as line

-- ---- a state

abbrev pub head_of : State → Head
head_of s = record { config = s.config; expected = s.expected; last = s.last; since = s.since; previous = s.previous }

abbrev pub row_line : List ℕ × Status → JournalLine
row_line r = line.Row r.0 r.1

-- a peer begins, what waits for it, and what is in flight to it
abbrev pub queue_lines : Queue → List JournalLine
queue_lines q = line.Peer ∷ (map line.Waiting q.waiting ++ map line.Flight q.flight)

abbrev pub queues_lines : List Queue → List JournalLine
queues_lines [] = []
queues_lines (q ∷ qs) = queue_lines q ++ queues_lines qs

abbrev pub state_lines : State → List JournalLine
state_lines s = line.Head (head_of s) ∷ (map line.Lease s.leases ++ (map row_line s.overrides ++ queues_lines s.queues))

-- ---- entries

-- what follows a reply: its victims, or its tasks
abbrev pub reply_lines : Reply → List JournalLine
reply_lines (reply.Evicted victims) = map line.Victim victims
reply_lines (reply.Batch tasks) = map line.Sent tasks
reply_lines _ = []

abbrev pub entry_lines : Entry → List JournalLine
entry_lines e = line.Asked e.pass e.number e.moment e.command ∷ (line.Answered e.reply ∷ reply_lines e.reply)

abbrev pub entries_lines : List Entry → List JournalLine
entries_lines [] = []
entries_lines (e ∷ es) = entry_lines e ++ entries_lines es

-- ---- the whole

-- all lines but that of the digest
abbrev pub journal_lines : State → List Entry → State → List JournalLine
journal_lines base entries end = state_lines base ++ (entries_lines entries ++ state_lines end)

-- a line, and its end
unfoldable pub line_text : JournalLine → List ℕ
line_text l = compact_text (line_tree l) ++ 10 ∷ []

-- a line for each
abbrev pub lines_text : List JournalLine → List ℕ
lines_text [] = []
lines_text (l ∷ ls) = line_text l ++ lines_text ls

-- the line of a text's digest
abbrev pub seal_line : List ℕ → JournalLine
seal_line body = line.Digest (encode_lower (sha256 body))

-- a text, and the line of its digest
abbrev pub sealed : List ℕ → List ℕ
sealed body = body ++ line_text (seal_line body)

abbrev pub journal_text : State → List Entry → State → List ℕ
journal_text base entries end = sealed (lines_text (journal_lines base entries end))

-- ---- what is read of what was written

-- what was written for it is UTF-8, and is read as its JSON, if it nests no deeper than is read
unfoldable pub IsReadBack : JournalLine → Type 0
IsReadBack l = IsUtf8 (compact_text (line_tree l)) × (depth (line_tree l) ≤ max_depth → read (compact_text (line_tree l)) ≡ Some (line_tree l))
