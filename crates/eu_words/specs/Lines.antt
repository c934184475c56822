-- What a line says
use Rattle.std.specs.Prelude.{ℕ, ◌^◌, ◌-◌, List, Option, Some, None, if◌then◌else◌, codes}
use Rattle.std.specs.Str.{bytes_eq}
use Rattle.eu_base.specs.Rest.{rest_of_host}
use Rattle.eu_base.specs.declared.instances.Instance.{Instance}
use Rattle.eu_model.specs.declared.commands.Command.TheVariants.{Register, Renew, Cancel, SetStatus, UnsetStatus, Adopt, EndMinute, Update, Reconfigure, Evict, Drain, Landed, Lost}
use Rattle.eu_words.specs.declared.lines.Line.{Line}
use Rattle.eu_words.specs.declared.lines.Line.TheVariants.{Open, Apply, Look, Counts, Page}
use Rattle.eu_words.specs.Words.{◌>>=◌, Field, words_of, word_at, end_at, number_at, moment_at, key_at, status_at, maybe_status_at, secs_at, stamp_at, last_dirty_at, source_at, peers_at, peer_at, settings_at, codes_of}

-- N, below 2^32, and P, up to 8, which may be left out for 0
unfoldable pub open_says : List (List ℕ) → Option Line
open_says ws = do
  n ← number_at (2 ^ 32 - 1) ws
  peers ← peers_at n.1
  e ← end_at peers.1
  Some (Open (record { expected = n.0; peers = peers.0 }))

-- T on P I M, T off P I M
unfoldable pub config_says : List (List ℕ) → Option Line
config_says ws = do
  t ← moment_at ws
  settings ← settings_at t.1
  e ← end_at settings.1
  Some (Apply t.0 (Reconfigure settings.0))

-- T P
unfoldable pub drain_says : List (List ℕ) → Option Line
drain_says ws = do
  t ← moment_at ws
  peer ← peer_at t.1
  e ← end_at peer.1
  Some (Apply t.0 (Drain peer.0))

-- the same
unfoldable pub lost_says : List (List ℕ) → Option Line
lost_says ws = do
  t ← moment_at ws
  peer ← peer_at t.1
  e ← end_at peer.1
  Some (Apply t.0 (Lost peer.0))

-- T P and any number of codes
unfoldable pub landed_says : List (List ℕ) → Option Line
landed_says ws = do
  t ← moment_at ws
  peer ← peer_at t.1
  codes ← codes_of peer.1
  Some (Apply t.0 (Landed peer.0 codes))

-- APP ID SECS STATUS OVR DIRTY: an absent stamp is the moment. The host is the id, and renewals are meant to come each 30 s
unfoldable pub newcomer_at : ℕ → Field Instance
newcomer_at moment ws = do
  key ← key_at ws
  secs ← secs_at key.1
  status ← status_at secs.1
  overridden ← status_at status.1
  last_dirty ← last_dirty_at moment overridden.1
  Some (record { key = key.0; status = status.0; overridden = overridden.0; last_dirty = last_dirty.0; secs = secs.0; interval = 30; rest = rest_of_host key.0.id }, last_dirty.1)

-- T APP ID SECS STATUS OVR DIRTY SRC
unfoldable pub register_says : List (List ℕ) → Option Line
register_says ws = do
  t ← moment_at ws
  newcomer ← newcomer_at t.0 t.1
  source ← source_at newcomer.1
  e ← end_at source.1
  Some (Apply t.0 (Register newcomer.0 source.0))

-- T APP ID DIRTY OVR SRC
unfoldable pub renew_says : List (List ℕ) → Option Line
renew_says ws = do
  t ← moment_at ws
  key ← key_at t.1
  last_dirty ← stamp_at key.1
  overridden ← maybe_status_at last_dirty.1
  source ← source_at overridden.1
  e ← end_at source.1
  Some (Apply t.0 (Renew key.0 last_dirty.0 overridden.0 source.0))

-- T APP ID SRC
unfoldable pub cancel_says : List (List ℕ) → Option Line
cancel_says ws = do
  t ← moment_at ws
  key ← key_at t.1
  source ← source_at key.1
  e ← end_at source.1
  Some (Apply t.0 (Cancel key.0 source.0))

-- T APP ID STATUS DIRTY SRC
unfoldable pub set_says : List (List ℕ) → Option Line
set_says ws = do
  t ← moment_at ws
  key ← key_at t.1
  status ← status_at key.1
  last_dirty ← stamp_at status.1
  source ← source_at last_dirty.1
  e ← end_at source.1
  Some (Apply t.0 (SetStatus key.0 status.0 last_dirty.0 source.0))

-- the same, where STATUS may be absent
unfoldable pub unset_says : List (List ℕ) → Option Line
unset_says ws = do
  t ← moment_at ws
  key ← key_at t.1
  status ← maybe_status_at key.1
  last_dirty ← stamp_at status.1
  source ← source_at last_dirty.1
  e ← end_at source.1
  Some (Apply t.0 (UnsetStatus key.0 status.0 last_dirty.0 source.0))

-- T APP ID SECS STATUS OVR DIRTY
unfoldable pub adopt_says : List (List ℕ) → Option Line
adopt_says ws = do
  t ← moment_at ws
  newcomer ← newcomer_at t.0 t.1
  e ← end_at newcomer.1
  Some (Apply t.0 (Adopt newcomer.0))

-- T APP ID
unfoldable pub look_says : List (List ℕ) → Option Line
look_says ws = do
  t ← moment_at ws
  key ← key_at t.1
  e ← end_at key.1
  Some (Look t.0 key.0)

-- T alone, after this verb
unfoldable pub moment_says : List ℕ → List (List ℕ) → Option Line
moment_says verb ws = do
  t ← moment_at ws
  e ← end_at t.1
  if bytes_eq verb (codes "roll") then Some (Apply t.0 EndMinute)
      else if bytes_eq verb (codes "update") then Some (Apply t.0 Update)
      else if bytes_eq verb (codes "evict") then Some (Apply t.0 Evict)
      else if bytes_eq verb (codes "counts") then Some (Counts t.0)
      else if bytes_eq verb (codes "page") then Some (Page t.0)
      else None

-- the words behind any other verb than those of clients and of adoptions
abbrev pub others_say : List ℕ → List (List ℕ) → Option Line
others_say verb ws =
    if bytes_eq verb (codes "config") then config_says ws
    else if bytes_eq verb (codes "drain") then drain_says ws
    else if bytes_eq verb (codes "landed") then landed_says ws
    else if bytes_eq verb (codes "lost") then lost_says ws
    else if bytes_eq verb (codes "look") then look_says ws
    else moment_says verb ws

-- the verb, which stands first, tells which line it is
unfoldable pub words_say : List (List ℕ) → Option Line
words_say ws = do
  verb ← word_at ws
  if bytes_eq verb.0 (codes "open") then open_says verb.1
      else if bytes_eq verb.0 (codes "register") then register_says verb.1
      else if bytes_eq verb.0 (codes "renew") then renew_says verb.1
      else if bytes_eq verb.0 (codes "cancel") then cancel_says verb.1
      else if bytes_eq verb.0 (codes "set") then set_says verb.1
      else if bytes_eq verb.0 (codes "unset") then unset_says verb.1
      else if bytes_eq verb.0 (codes "adopt") then adopt_says verb.1
      else others_say verb.0 verb.1

-- what a line says, if it says anything
abbrev pub line_of : List ℕ → Option Line
line_of text = words_say (words_of text)
