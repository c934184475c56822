-- The JSON of each line of a journal
use Rattle.std.specs.Prelude.{codes}
use Rattle.serde_json.specs.Data.{Data, string, object, no_members, member}
use Rattle.eu_journal_values.specs.Commands.{command_rest, command_tree}
use Rattle.eu_journal_values.specs.Trees.{config_tree, instance_tree, key_tree, optional, rest_tree, status_tree, task_rest, task_tree, times_tree, whole_number}
use Rattle.eu_journal_values.specs.Replies.{reply_rest, reply_tree}
use Rattle.eu_journal.specs.declared.lines.JournalLine.{JournalLine}
use Rattle.eu_journal.specs.declared.lines.JournalLine.TheVariants as line

-- Members stand in the order of their names. Of the instance that a line may have, the rest is a member of the line
abbrev pub line_tree : JournalLine → Data
line_tree (line.Head h) = object
    (member (codes "config") (config_tree h.config)
    (member (codes "expected") (whole_number h.expected)
    (member (codes "journal") (whole_number 1)
    (member (codes "last") (whole_number h.last)
    (member (codes "line") (string (codes "head"))
    (member (codes "previous") (optional whole_number h.previous)
    (member (codes "since") (whole_number h.since) no_members)))))))
line_tree (line.Lease l) = object
    (member (codes "instance") (instance_tree l.instance)
    (member (codes "line") (string (codes "lease"))
    (member (codes "rest") (rest_tree l.instance)
    (member (codes "times") (times_tree l.times) no_members))))
line_tree (line.Row id status) = object
    (member (codes "id") (string id)
    (member (codes "line") (string (codes "row"))
    (member (codes "status") (status_tree status) no_members)))
line_tree line.Peer = object (member (codes "line") (string (codes "peer")) no_members)
line_tree (line.Waiting task) = object
    (member (codes "line") (string (codes "waiting"))
    (member (codes "rest") (task_rest task)
    (member (codes "task") (task_tree task) no_members)))
line_tree (line.Flight task) = object
    (member (codes "line") (string (codes "flight"))
    (member (codes "rest") (task_rest task)
    (member (codes "task") (task_tree task) no_members)))
line_tree (line.Asked pass number moment command) = object
    (member (codes "command") (command_tree command)
    (member (codes "line") (string (codes "asked"))
    (member (codes "moment") (whole_number moment)
    (member (codes "number") (whole_number number)
    (member (codes "pass") (whole_number pass)
    (member (codes "rest") (command_rest command) no_members))))))
line_tree (line.Answered reply) = object
    (member (codes "line") (string (codes "answered"))
    (member (codes "reply") (reply_tree reply)
    (member (codes "rest") (reply_rest reply) no_members)))
line_tree (line.Victim key) = object
    (member (codes "key") (key_tree key)
    (member (codes "line") (string (codes "victim")) no_members))
line_tree (line.Sent task) = object
    (member (codes "line") (string (codes "sent"))
    (member (codes "rest") (task_rest task)
    (member (codes "task") (task_tree task) no_members)))
line_tree (line.Digest text) = object
    (member (codes "line") (string (codes "digest"))
    (member (codes "sha256") (string text) no_members))
