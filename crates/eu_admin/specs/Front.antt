-- The page of a whole registry
use Rattle.std.specs.Prelude.{ℕ, List, ◌++◌, ◌+◌, ◌*◌, ◌-◌, ◌^◌, codes, min, max}
use Rattle.std.specs.Fmt.{decimal}
use Rattle.std.specs.List.{flat_map}
use Rattle.eu_model.specs.declared.status_counts.StatusCounts.{StatusCounts}
use Rattle.eu_model.specs.declared.views.Counts.{Counts}
use Rattle.eu_admin.specs.declared.facts.Permission.{Permission}
use Rattle.eu_admin.specs.declared.facts.Permission.TheVariants.{Off, NoThreshold, TooFew, Fine}
use Rattle.eu_admin.specs.declared.facts.Connections.{Connections}
use Rattle.eu_admin.specs.declared.facts.Done.{Done}
use Rattle.eu_admin.specs.declared.facts.Facts.{Facts}
use Rattle.eu_admin.specs.declared.lines.AppLine.{AppLine}
use Rattle.eu_admin.specs.Facts.{permission}
use Rattle.eu_admin.specs.Markup.{encoded, escaped}
use Rattle.eu_admin.specs.Parts.{head, page_end, section, table_end, row}

-- ---- whether leases that expire are evicted, and why

unfoldable pub off : List ℕ
off = codes "<p class=\"banner off\">Self-preservation is off: leases that expire are evicted.</p>\n"

unfoldable pub no_threshold : List ℕ
no_threshold = codes "<p class=\"banner\">The threshold is 0, so self-preservation holds evictions back.</p>\n"

unfoldable pub too_few : ℕ → ℕ → List ℕ
too_few last threshold =
    codes "<p class=\"banner held\">Self-preservation holds evictions back: "
    ++ (decimal last ++ (codes " renewals in the last minute, not above the threshold of " ++ (decimal threshold ++ codes ".</p>\n")))

unfoldable pub enough : ℕ → ℕ → List ℕ
enough last threshold =
    codes "<p class=\"banner fine\">Evictions are permitted: "
    ++ (decimal last ++ (codes " renewals in the last minute, above the threshold of " ++ (decimal threshold ++ codes ".</p>\n")))

abbrev pub banner_of : Permission → ℕ → ℕ → List ℕ
banner_of Off last threshold = off
banner_of NoThreshold last threshold = no_threshold
banner_of TooFew last threshold = too_few last threshold
banner_of Fine last threshold = enough last threshold

abbrev pub banner : Counts → List ℕ
banner c = banner_of (permission c) c.last c.threshold

-- ---- the renewals of the last minute, on a meter

-- it ends at twice the threshold, at the renewals where they are more, and at 1 at least. (Twice a threshold of 2^63 and more is cut to the largest number of 64 bits)
abbrev pub meter_end : Counts → ℕ
meter_end c = max (max c.last (min (c.threshold * 2) (2 ^ 64 - 1))) 1

unfoldable pub meter_to : ℕ → ℕ → ℕ → List ℕ
meter_to end last low =
    codes "<p><meter aria-label=\"Renewals in the last minute\" min=\"0\" max=\"" ++ (decimal end ++ (codes "\" low=\"" ++ (decimal low ++ (codes "\" optimum=\"" ++ (decimal end
    ++ (codes "\" value=\"" ++ (decimal last ++ (codes "\">" ++ (decimal last ++ codes "</meter></p>\n")))))))))

-- renewals that don't permit evictions are low: those up to the threshold
abbrev pub meter : Counts → List ℕ
meter c = meter_to (meter_end c) c.last (min (c.threshold + 1) (2 ^ 64 - 1))

-- ---- tables of numbers

unfoldable pub renewals : Counts → List ℕ
renewals c =
    section (codes "Renewals")
    ++ (row (codes "In the last minute") c.last
    ++ (row (codes "Threshold") c.threshold
    ++ (row (codes "Clients expected") c.expected
    ++ table_end)))

unfoldable pub statuses : StatusCounts → List ℕ
statuses s =
    row (codes "UP") s.up
    ++ (row (codes "DOWN") s.down
    ++ (row (codes "STARTING") s.starting
    ++ (row (codes "OUT_OF_SERVICE") s.out_of_service
    ++ row (codes "UNKNOWN") s.unknown)))

unfoldable pub leases : Facts → List ℕ
leases f =
    section (codes "Leases")
    ++ (row (codes "Held") f.gauges.counts.held
    ++ (statuses f.statuses
    ++ (row (codes "Expired and still held") f.gauges.due
    ++ table_end)))

unfoldable pub done : Done → List ℕ
done d =
    row (codes "Commands") d.steps
    ++ (row (codes "Renewals") d.renewed
    ++ (row (codes "Leases added") d.added
    ++ (row (codes "Leases removed") d.removed
    ++ row (codes "Leases evicted") d.evicted)))

unfoldable pub connections : Connections → List ℕ
connections c =
    row (codes "Connections open") c.open
    ++ (row (codes "Connections accepted") c.accepted
    ++ row (codes "Connections refused") c.refused)

unfoldable pub since_the_start : Facts → List ℕ
since_the_start f =
    section (codes "Since the start")
    ++ (done f.done
    ++ (connections f.connections
    ++ (row (codes "Seconds since then") f.uptime_secs
    ++ table_end)))

-- all that is told in numbers
unfoldable pub numbers : Facts → List ℕ
numbers f =
    banner f.gauges.counts
    ++ (meter f.gauges.counts
    ++ (renewals f.gauges.counts
    ++ (leases f
    ++ since_the_start f)))

-- ---- the applications

-- the name of one, with a link to its page
unfoldable pub link : List ℕ → List ℕ
link app = codes "<a href=\"apps/" ++ (encoded app ++ (codes "\">" ++ (escaped app ++ codes "</a>")))

unfoldable pub app_row : AppLine → List ℕ
app_row line =
    codes "<tr><td>" ++ (link line.app ++ (codes "</td><td>" ++ (decimal line.instances ++ (codes "</td><td>" ++ (decimal line.up ++ codes "</td></tr>\n")))))

unfoldable pub app_heads : List ℕ
app_heads = codes "<tr><th scope=\"col\">Application</th><th scope=\"col\">Instances</th><th scope=\"col\">Up</th></tr>\n"

unfoldable pub applications : List AppLine → List ℕ
applications lines = section (codes "Applications") ++ (app_heads ++ (flat_map app_row lines ++ table_end))

-- ---- the page

unfoldable pub foot : List ℕ → List ℕ
foot version = codes "<footer>Version " ++ (escaped version ++ codes "</footer>\n")

abbrev pub front_page : Facts → List AppLine → List ℕ → List ℕ
front_page f lines version = head (codes "Lease registry") ++ (numbers f ++ (applications lines ++ (foot version ++ page_end)))
