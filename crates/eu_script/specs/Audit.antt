-- What an audit of a script tells
use Rattle.std.specs.Prelude.{◌≡◌, ◌↔◌, ℕ, ◌*◌, ◌≤◌, ◌<◌, Bool, true, false, IsTrue, List, [], ◌++◌, length, take, Option, Some, None, Result, Ok, Err, codes}
use Rattle.std.specs.Fmt.{decimal}
use Rattle.eu_audit.specs.PlainForm.{IsRun}
use Rattle.eu_base.specs.declared.settings.Config.{Config}
use Rattle.eu_base.specs.Limits.{most_entries}
use Rattle.eu_book.specs.Peers.{state_of}
use Rattle.eu_lines.specs.declared.faults.ScriptFault.{ScriptFault}
use Rattle.eu_lines.specs.declared.faults.ScriptFault.TheVariants.{Write}
use Rattle.eu_lines.specs.Lines.{script_limits}
use Rattle.eu_lines.specs.Script.{Streams, Outcome, place}
use Rattle.eu_model.specs.declared.commands.Entry.{Entry}
use Rattle.eu_model.specs.Server.{Runs, PlainServer, plain_server}
use Rattle.eu_model.specs.Server as model
use Rattle.eu_page.specs.Page.{yes_or_no}
use Rattle.eu_script.specs.Script.{Ran, Answers, Refuses}

-- the printed line of an audit: its answer, and how many entries it judged
abbrev pub audit_text : Bool → ℕ → List ℕ
audit_text answer n = codes "audit " ++ (yes_or_no answer ++ (codes " " ++ (decimal n ++ codes "\n")))

-- The journal of a run has these entries, from this base: the run's last ones. Those before them led to the base; they were dropped as
-- the journal was full and one entry more came. `checkpoints` is how often it was full and began anew
pub record Journals (r : Ran) (base : PlainServer) (entries : List Entry) : Type 0 where
  pub dropped : List Entry
  pub checkpoints : ℕ
  pub whole : r.entries ≡ dropped ++ entries
  pub came : Runs (plain_server (model.opened r.config r.opened r.peers)) dropped base
  pub full : length dropped ≡ checkpoints * most_entries
  pub fits : length entries ≤ most_entries
  pub some : 0 < checkpoints → 0 < length entries

-- The answer of an audit and the number that it tells, by the run at the script's end: whether the n entries of its journal are a run of
-- the lease machine from the journal's base to where the run ended; where the registry wasn't opened, yes and 0
abbrev pub Judges : Option Ran → Bool → ℕ → Type 0
Judges None answer n = (answer ≡ true) × (n ≡ 0)
Judges (Some r) answer n =
    (base : PlainServer) × (entries : List Entry) × Journals r base entries × (n ≡ length entries)
    × (IsTrue answer ↔ IsRun (state_of base) entries (state_of (plain_server r.server)))

-- A script of these settings, by its chooser before and after, and what became of the streams of its audit
module _ {C : Type 0} (config : Config) (asks : C → ℕ → ℕ × C) (x x' : C) (streams : Streams) where
  -- it had this result and came to this end, whatever it printed, which a writer took that never fails
  abbrev pub SilentlyRuns : Result (Unit {0}) ScriptFault → Option Ran → Type 0
  SilentlyRuns result end =
      (printed : List ℕ) × Outcome script_limits (Answers config asks) Refuses (place None x) (place end x') (record streams { writer_failed = false }) result printed

  -- it was answered whole, and this line tells the answer of its audit
  abbrev pub TellsAnswer : List ℕ → Bool → Type 0
  TellsAnswer line answer = (end : Option Ran) × SilentlyRuns (Ok tt) end × (n : ℕ) × Judges end answer n × (line ≡ audit_text answer n)

  -- what an audit of it did, by its result: it wrote out
  abbrev pub AuditRuns : Result Bool ScriptFault → List ℕ → Type 0
  AuditRuns (Ok answer) out = TellsAnswer out answer
  -- a front of the line is written
  AuditRuns (Err Write) out =
      (streams.writer_failed ≡ true) × (answer : Bool) × (line : List ℕ) × TellsAnswer line answer × (k : ℕ) × (out ≡ take k line)
  -- the script ended by that fault, or there was no memory for the audit; nothing is written
  AuditRuns (Err fault) out = (out ≡ []) × (end : Option Ran) × SilentlyRuns (Err fault) end
