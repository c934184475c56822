-- What the lines of a script do to a registry and its peers, and what they print
use Rattle.std.specs.Prelude.{◌≡◌, ◌⊎◌, ℕ, Bool, true, false, not, IsTrue, List, [], ◌∷◌, ◌++◌, ◌==◌, length, Option, Some, None, Result, codes, if◌then◌else◌, refl}
use Rattle.eu_base.specs.declared.faults.Fault.{Fault}
use Rattle.eu_base.specs.declared.faults.Fault.TheVariants.{Exhausted}
use Rattle.eu_base.specs.declared.settings.Config.{Config}
use Rattle.eu_base.specs.Limits.{most_steps}
use Rattle.eu_lines.specs.declared.faults.ScriptFault.{ScriptFault}
use Rattle.eu_lines.specs.Lines.{script_limits}
use Rattle.eu_lines.specs.Script.{Place, Streams, Outcome, place}
use Rattle.eu_model.specs.declared.commands.Command.{Command}
use Rattle.eu_model.specs.declared.commands.Command.TheVariants as command
use Rattle.eu_model.specs.declared.commands.Entry.{Entry}
use Rattle.eu_model.specs.declared.commands.Reply.{Reply}
use Rattle.eu_model.specs.declared.commands.Reply.TheVariants.{Evicted}
use Rattle.eu_model.specs.Machine.{Machine}
use Rattle.eu_model.specs.Server as model
use Rattle.eu_model.specs.Server.{Server, ServerStep, server_fault, Run}
use Rattle.eu_model.specs.View.{one, counts, listing, status_counts}
use Rattle.eu_page.specs.Page.{shown_page}
use Rattle.eu_core.specs.Stepped.{drawn_victims, drawn_state}
use Rattle.eu_words.specs.Lines.{line_of}
use Rattle.eu_words.specs.declared.lines.Line.{Line}
use Rattle.eu_words.specs.declared.lines.Line.TheVariants.{Open, Apply, Look, Counts, Page}
use Rattle.eu_script.specs.Texts.{reply_text, settled_text, refused_text, look_text, counts_text}

-- A run of a server: its settings, the numbers of clients and of peers with which it was opened, its entries so far, and the
-- server to which they lead
pub record Ran : Type 0 where
  pub config : Config
  pub opened : ℕ
  pub peers : ℕ
  pub entries : List Entry
  pub server : Server
  pub runs : Run (model.opened config opened peers) entries server

-- the run before its first entry
abbrev pub opened_with : Config → ℕ → ℕ → Ran
opened_with config n peers = record { config = config; opened = n; peers = peers; entries = []; server = model.opened config n peers; runs = refl }

-- one run is the other with one entry more, which is a step of the server
abbrev pub GoesOn : Ran → Entry → Ran → Type 0
GoesOn r e next =
    (next.config ≡ r.config) × (next.opened ≡ r.opened) × (next.peers ≡ r.peers) × (next.entries ≡ r.entries ++ e ∷ [])
    × (server_fault r.server e.command e.moment ≡ None) × ServerStep r.server e.command e.moment e.reply next.server

-- a run has so many entries at most
abbrev pub is_full : Ran → Bool
is_full r = length r.entries == most_steps

-- why a command is refused in a run, if it is: the run has no further entry, or the server refuses it
abbrev pub refusal_in : Ran → Command → ℕ → Option Fault
refusal_in r c t = if is_full r then Some Exhausted else server_fault r.server c t

-- this line prints out before the registry is open, and begins the run next: only one that opens it does
abbrev pub SaysClosed : Config → Line → List ℕ → Ran → Type 0
SaysClosed config (Open opening) out next = (out ≡ codes "opened\n") × (next ≡ opened_with config opening.expected opening.peers)
SaysClosed config _ out next = ⊥

-- A question prints this text of the server's machine, and changes nothing. The context is the chooser's state
abbrev pub Sees : {C : Type 0} → Place Ran C → (Machine → List ℕ) → List ℕ → Place Ran C → Type 0
Sees before text out after = (out ≡ text before.state.server.machine) × (after ≡ before)

-- `asks` is the law of a chooser: its word below a bound, and its state after
module _ {C : Type 0} (asks : C → ℕ → ℕ × C) where
  -- The victims of an eviction are those that the next words of the chooser x draw from the keys that are due, in key order, and leave
  -- it x'. No other command asks it
  abbrev pub Draws : Machine → C → Command → ℕ → Reply → C → Type 0
  Draws s x command.Evict t reply x' = (reply ≡ Evicted (drawn_victims asks s t x)) × (x' ≡ drawn_state asks s t x)
  Draws s x _ t reply x' = x' ≡ x

  -- A command at a moment, in the run and with the chooser before: one that is answered prints its reply, and is the next entry of the run,
  -- with the pass 0 and the number of the entries before it; one that is refused prints the fault's number, and changes nothing
  abbrev pub Does : Place Ran C → Command → ℕ → List ℕ → Place Ran C → Type 0
  Does before c t out after =
      ((e : Entry) × (e.command ≡ c) × (e.moment ≡ t) × (e.pass ≡ 0) × (e.number ≡ length before.state.entries) × (is_full before.state ≡ false) × GoesOn before.state e after.state
      × Draws before.state.server.machine before.context c t e.reply after.context × (out ≡ reply_text (settled_text c) e.reply))
      ⊎ ((f : Fault) × (refusal_in before.state c t ≡ Some f) × (out ≡ refused_text f) × (after ≡ before))

  -- this line prints out once the registry is open, and takes its run and the chooser from before to after
  abbrev pub SaysOpened : Line → Place Ran C → List ℕ → Place Ran C → Type 0
  SaysOpened (Apply t c) before out after = Does before c t out after
  SaysOpened (Look t k) before out after = Sees before (λ s. look_text (one s k t)) out after
  SaysOpened (Counts t) before out after = Sees before (λ s. counts_text (counts s)) out after
  SaysOpened (Page t) before out after = Sees before (λ s. shown_page (counts s) (status_counts (listing None s))) out after
  -- the registry is opened only once
  SaysOpened (Open opening) before out after = ⊥

-- The state is the run that the registry has made, or None before it is opened; the context is the chooser's state
module _ {C : Type 0} (config : Config) (asks : C → ℕ → ℕ × C) where
  -- this line prints out in this state and with the chooser x, and leads to the place after
  abbrev pub Says : Option Line → Option Ran → C → List ℕ → Place (Option Ran) C → Type 0
  Says (Some line) None x out after = (next : Ran) × SaysClosed config line out next × (after ≡ place (Some next) x)
  Says (Some line) (Some r) x out after = (next : Place Ran C) × SaysOpened asks line (place r x) out next × (after ≡ place (Some next.state) next.context)
  -- a text that is no line is bad
  Says None s x out after = ⊥

  -- the line of this text prints out, and takes registry and chooser from before to after
  abbrev pub Answers : Place (Option Ran) C → List ℕ → List ℕ → Place (Option Ran) C → Type 0
  Answers before text out after = Says (line_of text) before.state before.context out after

-- a text is no line, or the line may not stand here: the registry is opened once, and before anything else
abbrev pub opens : Line → Bool
opens (Open opening) = true
opens _ = false

abbrev pub IsMisplaced : Option Line → Option Ran → Type 0
IsMisplaced None s = Unit {0}
IsMisplaced (Some line) None = IsTrue (not (opens line))
IsMisplaced (Some line) (Some r) = IsTrue (opens line)

-- the line of this text is bad
abbrev pub Refuses : {C : Type 0} → Place (Option Ran) C → List ℕ → Type 0
Refuses here text = IsMisplaced (line_of text) here.state

-- What a script of these settings did, by its result: it took the chooser from x to x', this became of its streams, and it wrote out.
-- It began before the registry is opened
abbrev pub ScriptRuns : {C : Type 0} → Config → (C → ℕ → ℕ × C) → C → C → Streams → Result (Unit {0}) ScriptFault → List ℕ → Type 0
ScriptRuns config asks x x' streams result out =
    (end : Option Ran) × Outcome script_limits (Answers config asks) Refuses (place None x) (place end x') streams result out
