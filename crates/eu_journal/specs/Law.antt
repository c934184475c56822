-- What is read of a line that was written
use Rattle.std.specs.Prelude.{◌≡◌, ◌≤◌, ◌^◌, [], Ok, IfSome, ⊤}
use Rattle.eu_model.specs.declared.commands.Reply.{Reply}
use Rattle.eu_model.specs.declared.commands.Reply.TheVariants as reply
use Rattle.eu_journal_values.specs.Commands.{IsCommand}
use Rattle.eu_journal_values.specs.Limits.{IsConfig, IsInstance, IsKey, IsName, IsTask}
use Rattle.eu_journal_values.specs.Replies.{IsReply}
use Rattle.eu_journal.specs.LineReading.{line_of}
use Rattle.eu_journal.specs.Lines.{line_tree}
use Rattle.eu_journal.specs.declared.lines.JournalLine.{JournalLine}
use Rattle.eu_journal.specs.declared.lines.JournalLine.TheVariants as line
use Rattle.eu_base.specs.Limits.{last_moment}

-- what a line may hold, by its types
abbrev pub IsLine : JournalLine → Type 0
IsLine (line.Head h) = IsConfig h.config × IfSome h.previous (λ m. m ≤ last_moment)
IsLine (line.Lease l) = IsInstance l.instance
IsLine (line.Row id status) = IsName id
IsLine line.Peer = ⊤
IsLine (line.Waiting task) = IsTask task
IsLine (line.Flight task) = IsTask task
IsLine (line.Asked pass number moment command) = (moment ≤ last_moment) × IsCommand command
IsLine (line.Answered reply) = IsReply reply
IsLine (line.Victim key) = IsKey key
IsLine (line.Sent task) = IsTask task
IsLine (line.Digest text) = ⊤

-- ---- the law

-- a reply without its victims and its tasks, which have lines of their own
abbrev pub bare : Reply → Reply
bare (reply.Evicted victims) = reply.Evicted []
bare (reply.Batch tasks) = reply.Batch []
bare r = r

abbrev pub bare_line : JournalLine → JournalLine
bare_line (line.Answered reply) = line.Answered (bare reply)
bare_line l = l

-- each line is read as it was written
abbrev pub LinesComeBack : Type 0
LinesComeBack = (l : JournalLine) → IsLine l → line_of (line_tree l) ≡ Ok (bare_line l)
