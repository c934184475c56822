-- A command's JSON: as it is written, as it is read, and what a command that is read may hold
use Rattle.std.specs.Prelude.{ℕ, List, map, codes, ◌^◌, [], ◌∷◌, Result, Ok, Err, nat_lt, if◌then◌else◌, option_and_then, ◌<◌, IfSome, ⊤}
use Rattle.serde_json.specs.Data.{Data, null, boolean, string, array, object, no_members, member, Items, no_items, item}
use Rattle.serde_json.specs.View.{items_of}
use Rattle.eu_model.specs.declared.commands.Command.{Command}
use Rattle.std.specs.Str.{bytes_eq}
use Rattle.serde_json.specs.Find.{as_array, as_number, as_u64}
use Rattle.eu_base.specs.Gives.{◌>>=◌}
use Rattle.eu_journal_values.specs.Members.{member_in, needed, optional_in, small_in, stamp_in, status_in, text_in, truth_in}
use Rattle.eu_journal_values.specs.declared.faults.LineFault.{LineFault}
use Rattle.eu_journal_values.specs.declared.faults.LineFault.TheVariants.{NotALine}
use Rattle.std.specs.List.{AllByRecursion}
use Rattle.eu_journal_values.specs.Trees.{whole_number, optional, status_tree, key_tree, config_tree, instance_tree}
use Rattle.eu_journal_values.specs.Reading.{key_in, config_from, instance_in}
use Rattle.eu_journal_values.specs.Limits.{IsKey, IsStamp, IsInstance, IsConfig}
use Rattle.eu_model.specs.declared.commands.Command.TheVariants as command

-- ---- as it is written

abbrev pub codes_tree : List ℕ → Data
codes_tree answers = array (items_of (map whole_number answers))

abbrev pub command_tree : Command → Data
command_tree (command.Register i replicated) = object
    (member (codes "instance") (instance_tree i)
    (member (codes "name") (string (codes "Register"))
    (member (codes "replicated") (boolean replicated) no_members)))
command_tree (command.Renew k last_dirty overridden replicated) = object
    (member (codes "dirty") (optional whole_number last_dirty)
    (member (codes "key") (key_tree k)
    (member (codes "name") (string (codes "Renew"))
    (member (codes "overridden") (optional status_tree overridden)
    (member (codes "replicated") (boolean replicated) no_members)))))
command_tree (command.Cancel k replicated) = object
    (member (codes "key") (key_tree k)
    (member (codes "name") (string (codes "Cancel"))
    (member (codes "replicated") (boolean replicated) no_members)))
command_tree (command.SetStatus k status last_dirty replicated) = object
    (member (codes "dirty") (optional whole_number last_dirty)
    (member (codes "key") (key_tree k)
    (member (codes "name") (string (codes "SetStatus"))
    (member (codes "replicated") (boolean replicated)
    (member (codes "status") (status_tree status) no_members)))))
command_tree (command.UnsetStatus k status last_dirty replicated) = object
    (member (codes "dirty") (optional whole_number last_dirty)
    (member (codes "key") (key_tree k)
    (member (codes "name") (string (codes "UnsetStatus"))
    (member (codes "replicated") (boolean replicated)
    (member (codes "status") (optional status_tree status) no_members)))))
command_tree (command.Adopt i) = object
    (member (codes "instance") (instance_tree i)
    (member (codes "name") (string (codes "Adopt")) no_members))
command_tree command.EndMinute = object (member (codes "name") (string (codes "Roll")) no_members)
command_tree command.Update = object (member (codes "name") (string (codes "Update")) no_members)
command_tree (command.Reconfigure config) = object
    (member (codes "name") (string (codes "Reconfigure"))
    (member (codes "settings") (config_tree config) no_members))
command_tree command.Evict = object (member (codes "name") (string (codes "Evict")) no_members)
command_tree (command.Drain peer) = object
    (member (codes "name") (string (codes "Drain"))
    (member (codes "peer") (whole_number peer) no_members))
command_tree (command.Landed peer answers) = object
    (member (codes "codes") (codes_tree answers)
    (member (codes "name") (string (codes "Landed"))
    (member (codes "peer") (whole_number peer) no_members)))
command_tree (command.Lost peer) = object
    (member (codes "name") (string (codes "Lost"))
    (member (codes "peer") (whole_number peer) no_members))

-- the rest of a command's instance
abbrev pub command_rest : Command → Data
command_rest (command.Register i replicated) = i.rest
command_rest (command.Adopt i) = i.rest
command_rest _ = null

-- ---- as it is read

-- a code is below 2^16
abbrev pub below_16 : ℕ → Result ℕ LineFault
below_16 n = if nat_lt n (2 ^ 16) then Ok n else Err NotALine

abbrev pub code_of : Data → Result ℕ LineFault
code_of d = needed (option_and_then as_u64 (as_number d)) >>= below_16

abbrev pub codes_of : Items → Result (List ℕ) LineFault
codes_of no_items = Ok []
codes_of (item d ds) = do
  code ← code_of d
  rest ← codes_of ds
  Ok (code ∷ rest)

abbrev pub items_in : List ℕ → Data → Result Items LineFault
items_in name d = member_in name d >>= (λ m. needed (as_array m))

unfoldable pub register_of : Data → Data → Result Command LineFault
register_of rest d = do
  instance ← instance_in rest d
  replicated ← truth_in (codes "replicated") d
  Ok (command.Register instance replicated)

unfoldable pub renew_of : Data → Result Command LineFault
renew_of d = do
  key ← key_in d
  last_dirty ← optional_in stamp_in (codes "dirty") d
  overridden ← optional_in status_in (codes "overridden") d
  replicated ← truth_in (codes "replicated") d
  Ok (command.Renew key last_dirty overridden replicated)

unfoldable pub cancel_of : Data → Result Command LineFault
cancel_of d = do
  key ← key_in d
  replicated ← truth_in (codes "replicated") d
  Ok (command.Cancel key replicated)

unfoldable pub set_status_of : Data → Result Command LineFault
set_status_of d = do
  key ← key_in d
  status ← status_in (codes "status") d
  last_dirty ← optional_in stamp_in (codes "dirty") d
  replicated ← truth_in (codes "replicated") d
  Ok (command.SetStatus key status last_dirty replicated)

unfoldable pub unset_status_of : Data → Result Command LineFault
unset_status_of d = do
  key ← key_in d
  status ← optional_in status_in (codes "status") d
  last_dirty ← optional_in stamp_in (codes "dirty") d
  replicated ← truth_in (codes "replicated") d
  Ok (command.UnsetStatus key status last_dirty replicated)

unfoldable pub adopt_of : Data → Data → Result Command LineFault
adopt_of rest d = do
  instance ← instance_in rest d
  Ok (command.Adopt instance)

unfoldable pub reconfigure_of : Data → Result Command LineFault
reconfigure_of d = do
  config ← member_in (codes "settings") d >>= config_from
  Ok (command.Reconfigure config)

unfoldable pub drain_of : Data → Result Command LineFault
drain_of d = do
  peer ← small_in (codes "peer") d
  Ok (command.Drain peer)

unfoldable pub landed_of : Data → Result Command LineFault
landed_of d = do
  peer ← small_in (codes "peer") d
  answers ← items_in (codes "codes") d >>= codes_of
  Ok (command.Landed peer answers)

unfoldable pub lost_of : Data → Result Command LineFault
lost_of d = do
  peer ← small_in (codes "peer") d
  Ok (command.Lost peer)

-- those about a lease
abbrev pub lease_command : List ℕ → Data → Data → Result Command LineFault
lease_command name rest d =
    if bytes_eq name (codes "Register") then register_of rest d
    else if bytes_eq name (codes "Renew") then renew_of d
    else if bytes_eq name (codes "Cancel") then cancel_of d
    else if bytes_eq name (codes "SetStatus") then set_status_of d
    else if bytes_eq name (codes "UnsetStatus") then unset_status_of d
    else if bytes_eq name (codes "Adopt") then adopt_of rest d
    else Err NotALine

abbrev pub command_named : List ℕ → Data → Data → Result Command LineFault
command_named name rest d =
    if bytes_eq name (codes "Roll") then Ok command.EndMinute
    else if bytes_eq name (codes "Update") then Ok command.Update
    else if bytes_eq name (codes "Reconfigure") then reconfigure_of d
    else if bytes_eq name (codes "Evict") then Ok command.Evict
    else if bytes_eq name (codes "Drain") then drain_of d
    else if bytes_eq name (codes "Landed") then landed_of d
    else if bytes_eq name (codes "Lost") then lost_of d
    else lease_command name rest d

unfoldable pub command_of : Data → Data → Result Command LineFault
command_of rest d = do
  name ← text_in (codes "name") d
  command_named name rest d

-- ---- what it may hold

abbrev pub IsCode : ℕ → Type 0
IsCode code = code < 2 ^ 16

abbrev pub IsCommand : Command → Type 0
IsCommand (command.Register i replicated) = IsInstance i
IsCommand (command.Renew k last_dirty overridden replicated) = IsKey k × IfSome last_dirty IsStamp
IsCommand (command.Cancel k replicated) = IsKey k
IsCommand (command.SetStatus k status last_dirty replicated) = IsKey k × IfSome last_dirty IsStamp
IsCommand (command.UnsetStatus k status last_dirty replicated) = IsKey k × IfSome last_dirty IsStamp
IsCommand (command.Adopt i) = IsInstance i
IsCommand command.EndMinute = ⊤
IsCommand command.Update = ⊤
IsCommand (command.Reconfigure config) = IsConfig config
IsCommand command.Evict = ⊤
IsCommand (command.Drain peer) = peer < 2 ^ 32
IsCommand (command.Landed peer answers) = (peer < 2 ^ 32) × AllByRecursion IsCode answers
IsCommand (command.Lost peer) = peer < 2 ^ 32
