-- The status page
use Rattle.std.specs.Prelude.{◌≡◌, ℕ, Bool, List, ◌++◌, codes, if◌then◌else◌, string_bytes}
use Rattle.std.specs.Fmt.{decimal}
use Rattle.eu_model.specs.declared.views.Counts.{Counts}
use Rattle.eu_model.specs.declared.status_counts.StatusCounts.{StatusCounts}
use Rattle.eu_model.specs.View.{hash_of}
use Rattle.eu_page.specs.declared.pages.Page.{Page}

abbrev pub on_or_off : Bool → List ℕ
on_or_off b = if b then codes "on" else codes "off"

abbrev pub yes_or_no : Bool → List ℕ
yes_or_no b = if b then codes "yes" else codes "no"

-- the lines that tell numbers, each ended by LF
abbrev pub count_lines : Counts → List ℕ
count_lines c =
    codes "held " ++ (decimal c.held ++ (codes "\n"
    ++ (codes "expected " ++ (decimal c.expected ++ (codes "\n"
    ++ (codes "threshold " ++ (decimal c.threshold ++ (codes "\n"
    ++ (codes "last " ++ (decimal c.last ++ codes "\n"))))))))))

-- and those that tell whether it protects itself, and this hash code
abbrev pub state_lines : Counts → List ℕ → List ℕ
state_lines c statuses =
    codes "preservation " ++ (on_or_off c.preservation ++ (codes "\n"
    ++ (codes "permitted " ++ (yes_or_no c.permitted ++ (codes "\n"
    ++ (codes "statuses " ++ (statuses ++ codes "\n")))))))

-- the seven lines of these counts and this hash code
abbrev pub page_lines : Counts → List ℕ → List ℕ
page_lines c statuses = count_lines c ++ state_lines c statuses

-- what is seen of a registry with these counts, so many of whose leases have each status
abbrev pub shown_page : Counts → StatusCounts → List ℕ
shown_page c statuses = page_lines c (hash_of statuses)

-- the counts that a page tells
abbrev pub counts_of : Page → Counts
counts_of p = record {
  held = p.held;
  expected = p.expected;
  threshold = p.threshold;
  last = p.last;
  permitted = p.permitted;
  preservation = p.preservation;
}

-- the text of a page
abbrev pub page_text : Page → List ℕ
page_text p = page_lines (counts_of p) (string_bytes p.statuses)

-- the page tells these counts, and the hash code of these statuses
pub record IsPageOf (c : Counts) (statuses : StatusCounts) (p : Page) : Type 0 where
  pub counts : counts_of p ≡ c
  pub codes : string_bytes p.statuses ≡ hash_of statuses
