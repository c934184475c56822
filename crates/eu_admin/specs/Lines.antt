-- The applications of a listing, a line for each
use Rattle.std.specs.Prelude.{ℕ, Bool, List, [], ◌∷◌, length, if◌then◌else◌}
use Rattle.eu_base.specs.declared.statuses.Status.TheVariants.{Up}
use Rattle.eu_base.specs.Values.{name_eq}
use Rattle.eu_model.specs.declared.views.Listed.{Listed}
use Rattle.eu_model.specs.View.{number_in}
use Rattle.eu_admin.specs.declared.lines.AppLine.{AppLine}

abbrev pub same_app : Listed → Listed → Bool
same_app l m = name_eq l.instance.key.app m.instance.key.app

-- a lease before the runs of those that follow it: it joins the first of them where that is of the same application
abbrev pub before_runs : Listed → List (List Listed) → List (List Listed)
before_runs l [] = (l ∷ []) ∷ []
before_runs l ([] ∷ runs) = (l ∷ []) ∷ runs
before_runs l ((m ∷ run) ∷ runs) = if same_app l m then (l ∷ m ∷ run) ∷ runs else (l ∷ []) ∷ (m ∷ run) ∷ runs

-- the leases in their order, cut where one of another application follows
abbrev pub runs : List Listed → List (List Listed)
runs [] = []
runs (l ∷ ls) = before_runs l (runs ls)

-- the application of the first
abbrev pub app_of : List Listed → List ℕ
app_of [] = []
app_of (l ∷ ls) = l.instance.key.app

-- the line of a run: its application, how many leases it has, and how many of them are up
abbrev pub line_of : List Listed → AppLine
line_of run = record { app = app_of run; instances = length run; up = number_in run Up }
