-- What the JSON of a line says
use Rattle.std.specs.Prelude.{ℕ, List, Result, Ok, Err, if◌then◌else◌, ◌==◌, codes}
use Rattle.std.specs.Str.{bytes_eq}
use Rattle.serde_json.specs.Data.{Data}
use Rattle.eu_base.specs.declared.tasks.Task.{Task}
use Rattle.eu_base.specs.Gives.{◌>>=◌}
use Rattle.eu_journal_values.specs.Members.{member_in, moment_in, number_in, optional_in, status_in, text_in}
use Rattle.eu_journal_values.specs.Commands.{command_of}
use Rattle.eu_journal_values.specs.Reading.{config_from, instance_in, key_in, name_of, task_of, times_of}
use Rattle.eu_journal_values.specs.Replies.{reply_of}
use Rattle.eu_journal_values.specs.declared.faults.LineFault.{LineFault}
use Rattle.eu_journal_values.specs.declared.faults.LineFault.TheVariants.{NotALine}
use Rattle.eu_journal.specs.declared.lines.Head.{Head}
use Rattle.eu_journal.specs.declared.lines.JournalLine.{JournalLine}
use Rattle.eu_journal.specs.declared.lines.JournalLine.TheVariants as line

-- the only format there is
abbrev pub first_format : ℕ → Result (Unit {0}) LineFault
first_format n = if n == 1 then Ok tt else Err NotALine

unfoldable pub head_of : Data → Result Head LineFault
head_of d = do
  format ← number_in (codes "journal") d >>= first_format
  config ← member_in (codes "config") d >>= config_from
  expected ← number_in (codes "expected") d
  last ← number_in (codes "last") d
  since ← number_in (codes "since") d
  previous ← optional_in moment_in (codes "previous") d
  Ok (record { config = config; expected = expected; last = last; since = since; previous = previous })

unfoldable pub head_line : Data → Result JournalLine LineFault
head_line d = do
  head ← head_of d
  Ok (line.Head head)

unfoldable pub lease_line : Data → Result JournalLine LineFault
lease_line d = do
  rest ← member_in (codes "rest") d
  instance ← instance_in rest d
  times ← member_in (codes "times") d >>= times_of
  Ok (line.Lease (record { instance = instance; times = times }))

unfoldable pub row_line : Data → Result JournalLine LineFault
row_line d = do
  id ← text_in (codes "id") d >>= name_of
  status ← status_in (codes "status") d
  Ok (line.Row id status)

-- the task of a line
unfoldable pub task_in : Data → Result Task LineFault
task_in d = do
  rest ← member_in (codes "rest") d
  member_in (codes "task") d >>= task_of rest

unfoldable pub waiting_line : Data → Result JournalLine LineFault
waiting_line d = do
  task ← task_in d
  Ok (line.Waiting task)

unfoldable pub flight_line : Data → Result JournalLine LineFault
flight_line d = do
  task ← task_in d
  Ok (line.Flight task)

unfoldable pub asked_line : Data → Result JournalLine LineFault
asked_line d = do
  pass ← number_in (codes "pass") d
  number ← number_in (codes "number") d
  moment ← moment_in (codes "moment") d
  rest ← member_in (codes "rest") d
  command ← member_in (codes "command") d >>= command_of rest
  Ok (line.Asked pass number moment command)

unfoldable pub answered_line : Data → Result JournalLine LineFault
answered_line d = do
  rest ← member_in (codes "rest") d
  reply ← member_in (codes "reply") d >>= reply_of rest
  Ok (line.Answered reply)

unfoldable pub victim_line : Data → Result JournalLine LineFault
victim_line d = do
  key ← key_in d
  Ok (line.Victim key)

unfoldable pub sent_line : Data → Result JournalLine LineFault
sent_line d = do
  task ← task_in d
  Ok (line.Sent task)

unfoldable pub digest_line : Data → Result JournalLine LineFault
digest_line d = do
  text ← text_in (codes "sha256") d
  Ok (line.Digest text)

-- by the kind of the line
abbrev pub line_named : List ℕ → Data → Result JournalLine LineFault
line_named kind d =
    if bytes_eq kind (codes "head") then head_line d
    else if bytes_eq kind (codes "lease") then lease_line d
    else if bytes_eq kind (codes "row") then row_line d
    else if bytes_eq kind (codes "peer") then Ok line.Peer
    else if bytes_eq kind (codes "waiting") then waiting_line d
    else if bytes_eq kind (codes "flight") then flight_line d
    else if bytes_eq kind (codes "asked") then asked_line d
    else if bytes_eq kind (codes "answered") then answered_line d
    else if bytes_eq kind (codes "victim") then victim_line d
    else if bytes_eq kind (codes "sent") then sent_line d
    else if bytes_eq kind (codes "digest") then digest_line d
    else Err NotALine

unfoldable pub line_of : Data → Result JournalLine LineFault
line_of d = do
  kind ← text_in (codes "line") d
  line_named kind d
