-- The numbers of a line are whole, where those of its rest are
use Rattle.std.proofs.Common.{◌≡◌, ℕ, false, List, [], ◌∷◌, map, Option, Some, None, refl}
use Rattle.serde_json.specs.Data.{Data, null}
use Rattle.serde_json.specs.View.{items_of}
use Rattle.serde_json.specs.Written.{has_float, items_have_float}
use Rattle.eu_base.specs.declared.instances.Instance.{Instance}
use Rattle.eu_base.specs.declared.statuses.Status.{Status}
use Rattle.eu_base.specs.declared.tasks.Task.{Task}
use Rattle.eu_model.specs.declared.commands.Command.{Command}
use Rattle.eu_model.specs.declared.commands.Command.TheVariants as command
use Rattle.eu_model.specs.declared.commands.Reply.{Reply}
use Rattle.eu_model.specs.declared.commands.Reply.TheVariants as reply
use Rattle.eu_journal.specs.Lines.{line_tree}
use Rattle.eu_journal_values.specs.Commands.{command_rest, command_tree}
use Rattle.eu_journal_values.specs.Trees.{instance_tree, optional, rest_tree, status_tree, task_rest, task_tree, whole_number}
use Rattle.eu_journal_values.specs.Replies.{reply_rest, reply_tree}
use Rattle.eu_journal.specs.declared.lines.JournalLine.{JournalLine}
use Rattle.eu_journal.specs.declared.lines.JournalLine.TheVariants as line

whole_status : (s : Option Status) → has_float (optional status_tree s) ≡ false
whole_status None = refl
whole_status (Some s) = refl

whole_number_or_null : (n : Option ℕ) → has_float (optional whole_number n) ≡ false
whole_number_or_null None = refl
whole_number_or_null (Some n) = refl

whole_instance : (i : Option Instance) → has_float (optional instance_tree i) ≡ false
whole_instance None = refl
whole_instance (Some i) = refl

whole_task : (t : Task) → has_float (task_tree t) ≡ false
whole_task t = rw (whole_instance t.instance, whole_status t.status) refl

whole_codes : (cs : List ℕ) → items_have_float (items_of (map whole_number cs)) ≡ false
whole_codes [] = refl
whole_codes (c ∷ cs) = whole_codes cs

whole_command : (c : Command) → has_float (command_tree c) ≡ false
whole_command (command.Register i replicated) = refl
whole_command (command.Renew k last_dirty overridden replicated) = rw (whole_number_or_null last_dirty, whole_status overridden) refl
whole_command (command.Cancel k replicated) = refl
whole_command (command.SetStatus k status last_dirty replicated) = rw (whole_number_or_null last_dirty) refl
whole_command (command.UnsetStatus k status last_dirty replicated) = rw (whole_number_or_null last_dirty, whole_status status) refl
whole_command (command.Adopt i) = refl
whole_command command.EndMinute = refl
whole_command command.Update = refl
whole_command (command.Reconfigure config) = refl
whole_command command.Evict = refl
whole_command (command.Drain peer) = refl
whole_command (command.Landed peer answers) = rw (whole_codes answers) refl
whole_command (command.Lost peer) = refl

whole_reply : (r : Reply) → has_float (reply_tree r) ≡ false
whole_reply (reply.Registered fresh) = refl
whole_reply reply.Done = refl
whole_reply reply.NotFound = refl
whole_reply reply.Stale = refl
whole_reply (reply.Conflict i) = refl
whole_reply (reply.Last renewals) = refl
whole_reply (reply.Expected clients) = refl
whole_reply (reply.Evicted victims) = refl
whole_reply (reply.Batch tasks) = refl
whole_reply reply.Settled = refl

-- the rest that a line has, or null
abbrev pub line_rest : JournalLine → Data
line_rest (line.Lease l) = rest_tree l.instance
line_rest (line.Waiting task) = task_rest task
line_rest (line.Flight task) = task_rest task
line_rest (line.Asked pass number moment command) = command_rest command
line_rest (line.Answered reply) = reply_rest reply
line_rest (line.Sent task) = task_rest task
line_rest _ = null

pub whole_line : (l : JournalLine) → has_float (line_rest l) ≡ false → has_float (line_tree l) ≡ false
whole_line (line.Head h) whole = rw (whole_number_or_null h.previous) refl
whole_line (line.Lease l) whole = rw whole refl
whole_line (line.Row id status) whole = refl
whole_line line.Peer whole = refl
whole_line (line.Waiting task) whole = rw (whole, whole_task task) refl
whole_line (line.Flight task) whole = rw (whole, whole_task task) refl
whole_line (line.Asked pass number moment command) whole = rw (whole_command command, whole) refl
whole_line (line.Answered reply) whole = rw (whole_reply reply, whole) refl
whole_line (line.Victim key) whole = refl
whole_line (line.Sent task) whole = rw (whole, whole_task task) refl
whole_line (line.Digest text) whole = refl

-- and so are those of a value that is the line
pub whole_of : (l : JournalLine) (d rest : Data) → d ≡ line_tree l → rest ≡ line_rest l → has_float rest ≡ false → has_float d ≡ false
whole_of l d rest is there whole = rw is (whole_line l (rw (← there) whole))
