-- The page of one application
use Rattle.std.specs.Prelude.{ℕ, List, [], ◌+◌, ◌-◌, ◌/◌, ◌^◌, ◌++◌, ◌==◌, codes, min, if◌then◌else◌}
use Rattle.std.specs.Fmt.{decimal}
use Rattle.std.specs.List.{flat_map}
use Rattle.eu_base.specs.declared.statuses.Status.{Status}
use Rattle.eu_base.specs.declared.statuses.Status.TheVariants.{Up, Down, Starting, OutOfService, Unknown}
use Rattle.eu_base.specs.Values.{status_name}
use Rattle.eu_model.specs.declared.views.Listed.{Listed}
use Rattle.eu_model.specs.Machine.{duration}
use Rattle.eu_admin.specs.Markup.{escaped}
use Rattle.eu_admin.specs.Parts.{head, page_end, table_end}

-- ---- moments of a lease, in milliseconds

-- when it was last heard of. The last update is the registration, or a renewal and one duration
abbrev pub heard : Listed → ℕ
heard l = if l.times.updated == l.times.registered then l.times.updated else l.times.updated - duration l.instance

-- until when it is held: for one duration after its last update. (What passes the largest number of 64 bits is cut to it)
abbrev pub held_until : Listed → ℕ
held_until l = min (l.times.updated + duration l.instance) (2 ^ 64 - 1)

-- whole seconds since it was last heard of
abbrev pub silence : Listed → ℕ → ℕ
silence l now = (now - heard l) / 1000

-- and until its lease ends; 0 where it has ended
abbrev pub left : Listed → ℕ → ℕ
left l now = (held_until l - now) / 1000

-- ---- the row of an instance

-- the status that was put over its own: none where that is unknown
abbrev pub overridden_name : Status → List ℕ
overridden_name Unknown = []
overridden_name status = status_name status

unfoldable pub id_cell : List ℕ → List ℕ
id_cell id = codes "<tr><td>" ++ (escaped id ++ codes "</td>")

unfoldable pub cell : List ℕ → List ℕ
cell content = codes "<td>" ++ (content ++ codes "</td>")

unfoldable pub number_cells : ℕ → ℕ → List ℕ
number_cells silence left = codes "<td>" ++ (decimal silence ++ (codes "</td><td>" ++ (decimal left ++ codes "</td></tr>\n")))

-- its id, its status, the one put over it, how long it has been silent, and how long its lease is still held
unfoldable pub instance_row : ℕ → Listed → List ℕ
instance_row now l =
    id_cell l.instance.key.id
    ++ (cell (status_name l.instance.status)
    ++ (cell (overridden_name l.instance.overridden)
    ++ number_cells (silence l now) (left l now)))

-- ---- the page

unfoldable pub heads : List ℕ
heads = codes "<p><a href=\"../\">Lease registry</a></p>\n<table>\n<tr><th scope=\"col\">Instance</th><th scope=\"col\">Status</th><th scope=\"col\">Overridden status</th><th scope=\"col\">Last heard of, seconds ago</th><th scope=\"col\">Lease left, seconds</th></tr>\n"

abbrev pub app_page : List ℕ → List Listed → ℕ → List ℕ
app_page app listing now = head app ++ (heads ++ (flat_map (instance_row now) listing ++ (table_end ++ page_end)))
