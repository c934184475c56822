-- The words of a line, and what a word says at its place
use Rattle.std.specs.Prelude.{◌≡◌, ℕ, ◌+◌, ◌^◌, ◌-◌, Bool, true, false, ◌&&◌, List, [], ◌∷◌, length, Option, Some, None, Result, Ok, Err, nat_lt, nat_le, ◌==◌, if◌then◌else◌, codes}
use Rattle.std.specs.Borrow.{Bor}
use Rattle.std.specs.List.{slice_split}
use Rattle.std.specs.Option.{unwrap_or}
use Rattle.std.specs.Str.{all_ascii_digits, is_utf8, bytes_eq, str_to_ascii_uppercase}
use Rattle.std.specs.Str.Parse.{digits_value}
use Rattle.eu_base.specs.declared.statuses.Status.{Status}
use Rattle.eu_base.specs.declared.names.Key.{Key}
use Rattle.eu_base.specs.declared.settings.Config.{Config}
use Rattle.eu_base.specs.Values.{settings_from, status_of}
use Rattle.eu_base.specs.Limits.{last_moment, longest_lease, longest_name, most_peers}
use Rattle.eu_lines.specs.declared.faults.LineError.{LineError}
use Rattle.eu_lines.specs.declared.faults.LineError.TheVariants.{Bad, OutOfMemory}

-- what stands between single spaces: two spaces next to one another have an empty word between them
abbrev pub words_of : List ℕ → List (List ℕ)
words_of line = slice_split (λ b. b == 32) line

-- the words of what is left of a line, if anything is
abbrev pub words_left : Option (Bor (List ℕ)) → List (List ℕ)
words_left None = []
words_left (Some text) = words_of text.now

infixl 10 ◌>>=◌
abbrev pub ◌>>=◌ : {A B : Type 0} → Option A → (A → Option B) → Option B
None >>= f = None
(Some x) >>= f = f x

-- a field is what the next words say, and the words after them; none where they say nothing that fits
abbrev pub Field : Type 0 → Type 0
Field X = List (List ℕ) → Option (X × List (List ℕ))

-- a line is bad only where it says nothing; where memory runs out, nothing is known
abbrev pub Fails : {X : Type 0} → LineError → Option X → Type 0
Fails Bad said = said ≡ None
Fails OutOfMemory said = Unit {0}

-- what was taken off the words, and the words that are left, are what is said
abbrev pub Takes : {X : Type 0} → Result X LineError → List (List ℕ) → Option (X × List (List ℕ)) → Type 0
Takes (Ok x) left said = said ≡ Some (x, left)
Takes (Err e) left said = Fails e said

-- the same where it is what all the words say
abbrev pub IsReading : {X : Type 0} → Result X LineError → Option X → Type 0
IsReading (Ok x) said = said ≡ Some x
IsReading (Err e) said = Fails e said

-- 1 to 20 decimal digits
abbrev pub number : List ℕ → Option ℕ
number w = if nat_lt 0 (length w) && nat_lt (length w) 21 && all_ascii_digits w then Some (digits_value 10 w) else None

-- 1 to 255 bytes of UTF-8
abbrev pub is_name : List ℕ → Bool
is_name w = nat_lt 0 (length w) && nat_lt (length w) (longest_name + 1) && is_utf8 w

abbrev pub word_at : Field (List ℕ)
word_at [] = None
word_at (w ∷ ws) = Some (w, ws)

-- no word is left
abbrev pub end_at : Field (Unit {0})
end_at [] = Some (tt, [])
end_at (w ∷ ws) = None

-- a number up to a limit
unfoldable pub number_at : ℕ → Field ℕ
number_at most ws = do
  w ← word_at ws
  n ← number w.0
  if nat_le n most then Some (n, w.1) else None

-- a moment: up to 2^62
abbrev pub moment_at : Field ℕ
moment_at ws = number_at last_moment ws

-- the name of an application, its ASCII letters in capitals
unfoldable pub app_at : Field (List ℕ)
app_at ws = do
  w ← word_at ws
  if is_name w.0 then Some (str_to_ascii_uppercase w.0, w.1) else None

-- the id of an instance, as it is written
unfoldable pub id_at : Field (List ℕ)
id_at ws = do
  w ← word_at ws
  if is_name w.0 then Some w else None

-- an application and an id
unfoldable pub key_at : Field Key
key_at ws = do
  app ← app_at ws
  id ← id_at app.1
  Some (record { app = app.0; id = id.0 }, id.1)

-- whether `-` stands, which is then read; any other word is left
unfoldable pub absent_at : Field Bool
absent_at ws = do
  w ← word_at ws
  if bytes_eq w.0 (codes "-") then Some (true, w.1) else Some (false, ws)

unfoldable pub status_at : Field Status
status_at ws = do
  w ← word_at ws
  status ← status_of w.0
  Some (status, w.1)

-- a status, or none where `-` stands
unfoldable pub maybe_status_at : Field (Option Status)
maybe_status_at ws = do
  absent ← absent_at ws
  if absent.0 then Some (None, absent.1) else (status_at absent.1 >>= λ status. Some (Some status.0, status.1))

-- the duration of a lease, in seconds: up to 2,147,483, and 0 stands for 90
unfoldable pub secs_at : Field ℕ
secs_at ws = do
  n ← number_at longest_lease ws
  Some (if n.0 == 0 then 90 else n.0, n.1)

-- a stamp: up to 2^63 - 1, or none where `-` stands
unfoldable pub stamp_at : Field (Option ℕ)
stamp_at ws = do
  absent ← absent_at ws
  if absent.0 then Some (None, absent.1) else (number_at (2 ^ 63 - 1) absent.1 >>= λ n. Some (Some n.0, n.1))

-- the same, where `-` stands for the one that is given
unfoldable pub last_dirty_at : ℕ → Field ℕ
last_dirty_at given ws = do
  stamp ← stamp_at ws
  Some (unwrap_or stamp.0 given, stamp.1)

-- who sends it: `c`, a client, or `r`, a peer that replicates
unfoldable pub source_at : Field Bool
source_at ws = do
  w ← word_at ws
  if bytes_eq w.0 (codes "c") then Some (false, w.1)
      else if bytes_eq w.0 (codes "r") then Some (true, w.1)
      else None

-- how many peers there are: up to 8; 0 where no word is left
unfoldable pub peers_at : Field ℕ
peers_at [] = Some (0, [])
peers_at (w ∷ ws) = number_at most_peers (w ∷ ws)

-- a number below 2^32
abbrev pub u32_at : Field ℕ
u32_at ws = number_at (2 ^ 32 - 1) ws

-- the number of a peer
abbrev pub peer_at : Field ℕ
peer_at ws = u32_at ws

-- whether a setting is `on` or `off`
unfoldable pub switch_at : Field Bool
switch_at ws = do
  w ← word_at ws
  if bytes_eq w.0 (codes "on") then Some (true, w.1)
      else if bytes_eq w.0 (codes "off") then Some (false, w.1)
      else None

-- `on` or `off`, the percentage, the seconds between two renewals and the milliseconds between two evictions, each below 2^32 and within
-- its limits
unfoldable pub settings_at : Field Config
settings_at ws = do
  preservation ← switch_at ws
  percent ← u32_at preservation.1
  interval ← u32_at percent.1
  evict_ms ← u32_at interval.1
  settings ← settings_from preservation.0 percent.0 interval.0 evict_ms.0
  Some (settings, evict_ms.1)

-- an HTTP status: 100 to 999
unfoldable pub code_at : Field ℕ
code_at ws = do
  n ← number_at 999 ws
  if nat_lt n.0 100 then None else Some n

-- each word that is left is one
abbrev pub codes_of : List (List ℕ) → Option (List ℕ)
codes_of [] = Some []
codes_of (w ∷ ws) = do
  n ← code_at (w ∷ [])
  ns ← codes_of ws
  Some (n.0 ∷ ns)
