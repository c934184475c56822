-- Where a script stands between two steps. Only the contracts of private functions speak of this.
use Rattle.std.specs.Prelude.{◌≡◌, ℕ, Bool, List, [], ◌∷◌, ◌++◌, length, Option}
use Rattle.eu_lines.specs.declared.limits.Limits.{Limits}
use Rattle.eu_lines.specs.declared.faults.ScriptFault.{ScriptFault}
use Rattle.eu_lines.specs.declared.run.Cutter.{Cutter}
use Rattle.eu_lines.specs.Lines.{lines_of, IsWhole, HasNoEnd, IsKept}
use Rattle.eu_lines.specs.Script.{Place, Wrote, Printed, StopsIn}

-- Where a script began: its place, and what the writer held, where that is known.
pub record Start (S X : Type 0) : Type 0 where
  pub place : Place S X
  pub holds : Option (List ℕ)

-- Where a script stands: what it keeps between two lines, its place, and what the writer holds, where that is known.
pub record Standing (S X : Type 0) : Type 0 where
  pub run : Cutter
  pub place : Place S X
  pub holds : Option (List ℕ)

abbrev pub standing : {S X : Type 0} → Cutter → S → X → Option (List ℕ) → Standing S X
standing run s x holds = record { run = run; place = record { state = s; context = x }; holds = holds }

-- Where a script stopped: the context, what the writer holds, where that is known, and whether it failed.
pub record Stop (X : Type 0) : Type 0 where
  pub context : X
  pub holds : Option (List ℕ)
  pub failed : Bool

module _ {S X : Type 0} (limits : Limits) (answers : Place S X → List ℕ → List ℕ → Place S X → Type 0) where
  -- what these lines print is written, but for what waits
  abbrev pub Shown : Start S X → List (List ℕ) → Standing S X → Type 0
  Shown start lines now = Wrote start.holds now.holds (λ out. Printed limits answers start.place lines (out ++ now.run.waiting.items) now.place)

  -- A script that began so has taken this text, and stands here now.
  pub record Stands (start : Start S X) (text : List ℕ) (now : Standing S X) : Type 0 where
    pub front : List ℕ
    pub tail : List ℕ
    pub lines : List (List ℕ)
    pub whole : text ≡ front ++ tail
    pub ends : IsWhole front
    pub unended : HasNoEnd tail
    pub keeps : IsKept limits.line now.run.partial.items tail
    pub cuts : (more : List ℕ) → lines_of (front ++ more) ≡ lines ++ lines_of more
    pub counts : now.run.number ≡ length lines
    pub shown : Shown start lines now

  -- From one standing to the next one line is answered: the partial line, and then this part.
  abbrev pub Adds : Standing S X → List ℕ → Standing S X → Type 0
  Adds now part next =
      (start : Start S X) (lines : List (List ℕ)) (line : List ℕ) → Shown start lines now → IsKept limits.line now.run.partial.items line
      → Shown start (lines ++ (line ++ part) ∷ []) next

  -- From one standing to the next these bytes are taken.
  abbrev pub Takes : Standing S X → List ℕ → Standing S X → Type 0
  Takes now bytes next = (start : Start S X) (text : List ℕ) → Stands start text now → Stands start (text ++ bytes) next

module _ {S X : Type 0} (limits : Limits) (answers : Place S X → List ℕ → List ℕ → Place S X → Type 0) (refuses : Place S X → List ℕ → Type 0) where
  -- A script stopped with a fault in these lines.
  abbrev pub Stopped : Start S X → List (List ℕ) → Stop X → ScriptFault → Type 0
  Stopped start lines stop fault = Wrote start.holds stop.holds (StopsIn limits answers refuses start.place lines stop.context stop.failed fault)

  -- A script stopped with a fault in whole lines of this text.
  abbrev pub StoppedWithin : Start S X → List ℕ → Stop X → ScriptFault → Type 0
  StoppedWithin start text stop fault =
      Wrote start.holds stop.holds (λ out.
      (front : List ℕ) × (rest : List ℕ) × (text ≡ front ++ rest) × IsWhole front × StopsIn limits answers refuses start.place (lines_of front) stop.context stop.failed fault out)

  -- From one standing a script stops with a fault, at the latest in the line that ends with this part.
  abbrev pub StopsAdding : Standing S X → List ℕ → Stop X → ScriptFault → Type 0
  StopsAdding now part stop fault =
      (start : Start S X) (lines : List (List ℕ)) (line : List ℕ)
      → Shown limits answers start lines now → IsKept limits.line now.run.partial.items line → now.run.number ≡ length lines
      → Stopped start (lines ++ (line ++ part) ∷ []) stop fault

  -- From one standing a script stops with a fault within these bytes.
  abbrev pub StopsTaking : Standing S X → List ℕ → Stop X → ScriptFault → Type 0
  StopsTaking now bytes stop fault = (start : Start S X) (text : List ℕ) → Stands limits answers start text now → StoppedWithin start (text ++ bytes) stop fault
