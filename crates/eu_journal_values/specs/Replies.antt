-- A reply's JSON: as it is written, as it is read, and what a reply that is read may hold
use Rattle.std.specs.Prelude.{ℕ, List, codes, [], Result, Ok, Err, if◌then◌else◌, ⊤}
use Rattle.serde_json.specs.Data.{Data, null, boolean, string, object, no_members, member}
use Rattle.eu_model.specs.declared.commands.Reply.{Reply}
use Rattle.std.specs.Str.{bytes_eq}
use Rattle.eu_base.specs.Gives.{◌>>=◌}
use Rattle.eu_journal_values.specs.Members.{number_in, text_in, truth_in}
use Rattle.eu_journal_values.specs.declared.faults.LineFault.{LineFault}
use Rattle.eu_journal_values.specs.declared.faults.LineFault.TheVariants.{NotALine}
use Rattle.eu_journal_values.specs.Trees.{whole_number, instance_tree}
use Rattle.eu_journal_values.specs.Reading.{instance_in}
use Rattle.eu_journal_values.specs.Limits.{IsInstance}
use Rattle.eu_model.specs.declared.commands.Reply.TheVariants as reply

-- ---- as it is written

-- A reply but for its victims and its tasks, which are lines of their own
abbrev pub reply_tree : Reply → Data
reply_tree (reply.Registered fresh) = object
    (member (codes "fresh") (boolean fresh)
    (member (codes "name") (string (codes "Registered")) no_members))
reply_tree reply.Done = object (member (codes "name") (string (codes "Done")) no_members)
reply_tree reply.NotFound = object (member (codes "name") (string (codes "NotFound")) no_members)
reply_tree reply.Stale = object (member (codes "name") (string (codes "Stale")) no_members)
reply_tree (reply.Conflict i) = object
    (member (codes "instance") (instance_tree i)
    (member (codes "name") (string (codes "Conflict")) no_members))
reply_tree (reply.Last renewals) = object
    (member (codes "name") (string (codes "Last"))
    (member (codes "renewals") (whole_number renewals) no_members))
reply_tree (reply.Expected clients) = object
    (member (codes "clients") (whole_number clients)
    (member (codes "name") (string (codes "Expected")) no_members))
reply_tree (reply.Evicted victims) = object (member (codes "name") (string (codes "Evicted")) no_members)
reply_tree (reply.Batch tasks) = object (member (codes "name") (string (codes "Batch")) no_members)
reply_tree reply.Settled = object (member (codes "name") (string (codes "Settled")) no_members)

abbrev pub reply_rest : Reply → Data
reply_rest (reply.Conflict i) = i.rest
reply_rest _ = null

-- ---- as it is read

unfoldable pub registered_of : Data → Result Reply LineFault
registered_of d = do
  fresh ← truth_in (codes "fresh") d
  Ok (reply.Registered fresh)

unfoldable pub conflict_of : Data → Data → Result Reply LineFault
conflict_of rest d = do
  instance ← instance_in rest d
  Ok (reply.Conflict instance)

unfoldable pub last_of : Data → Result Reply LineFault
last_of d = do
  renewals ← number_in (codes "renewals") d
  Ok (reply.Last renewals)

unfoldable pub expected_of : Data → Result Reply LineFault
expected_of d = do
  clients ← number_in (codes "clients") d
  Ok (reply.Expected clients)

-- an eviction has no victims yet, and a batch no tasks
abbrev pub reply_named : List ℕ → Data → Data → Result Reply LineFault
reply_named name rest d =
    if bytes_eq name (codes "Registered") then registered_of d
    else if bytes_eq name (codes "Done") then Ok reply.Done
    else if bytes_eq name (codes "NotFound") then Ok reply.NotFound
    else if bytes_eq name (codes "Stale") then Ok reply.Stale
    else if bytes_eq name (codes "Conflict") then conflict_of rest d
    else if bytes_eq name (codes "Last") then last_of d
    else if bytes_eq name (codes "Expected") then expected_of d
    else if bytes_eq name (codes "Evicted") then Ok (reply.Evicted [])
    else if bytes_eq name (codes "Batch") then Ok (reply.Batch [])
    else if bytes_eq name (codes "Settled") then Ok reply.Settled
    else Err NotALine

unfoldable pub reply_of : Data → Data → Result Reply LineFault
reply_of rest d = do
  name ← text_in (codes "name") d
  reply_named name rest d

-- ---- what it may hold

abbrev pub IsReply : Reply → Type 0
IsReply (reply.Conflict i) = IsInstance i
IsReply _ = ⊤
