-- A journal that was written says itself, and no other
use Rattle.std.proofs.Common.{◌≡◌, ◌≤◌, ℕ, List, [], ◌∷◌, ◌++◌, length, map, refl, ap, sym, ◌∙◌, subst, append-nil}
use Rattle.std.proofs.lemmas.List.{map-append}
use Rattle.std.specs.List.{AllByRecursion}
use Rattle.eu_lines.specs.Lines.{lines_of}
use Rattle.eu_journal.proofs.LineLemmas.{lines_come_back}
use Rattle.eu_journal.specs.Law.{IsLine, bare_line}
use Rattle.eu_journal.specs.declared.lines.JournalLine.{JournalLine}
use Rattle.eu_journal_text.proofs.PutLemmas.{lines_text_append}
use Rattle.eu_journal_text.specs.Text.{IsReadBack, journal_lines, journal_text, line_text, lines_text, seal_line}
use Rattle.eu_journal_read.specs.Drafts.{state_of}
use Rattle.eu_journal_read.specs.Law.{IsShallow, IsShort, JournalsComeBack, OneJournal}
use Rattle.eu_journal_read.specs.Said.{IsReadAs, SayLines, SaysLine, filled, journal_limits}
use Rattle.eu_journal_read.specs.declared.stages.Stage.TheVariants as stage
use Rattle.eu_journal_read.proofs.ReadLemmas.{journal_reads, reads_once}
use Rattle.eu_journal_read.proofs.WrittenLemmas.{bare_line_twice, text_of, written_filled, written_joined, written_lines}

-- all of some lines, and the last
all_parts : (P : JournalLine → Type 0) (xs : List JournalLine) (y : JournalLine) → AllByRecursion P (xs ++ y ∷ []) → AllByRecursion P xs × P y
all_parts P [] y all = (tt, all.0)
all_parts P (x ∷ xs) y all = let rest = all_parts P xs y all.1 in ((all.0, rest.0), rest.1)

line_says : (l : JournalLine) → IsLine l → IsReadBack l → IsShallow l → SaysLine (text_of l) l
unfolding IsReadBack IsReadAs
line_says l is back shallow = (bare_line l, (back.0, rw (back.1 shallow) (lines_come_back l is)), bare_line_twice l)

lines_say : (ls : List JournalLine) → AllByRecursion IsLine ls → AllByRecursion IsReadBack ls → AllByRecursion IsShallow ls → SayLines (map text_of ls) ls
lines_say [] is back shallow = tt
lines_say (l ∷ ls) is back shallow = (line_says l is.0 back.0 shallow.0, lines_say ls is.1 back.1 shallow.1)

all_short : (ls : List JournalLine) → AllByRecursion IsShort ls → AllByRecursion (λ (line : List ℕ). length line ≤ journal_limits.line) (map text_of ls)
all_short [] all = tt
all_short (l ∷ ls) all = (all.0, all_short ls all.1)

pub journals_back : JournalsComeBack
journals_back base entries end is back shallow short few =
    let body = journal_lines base entries end in
    let seal = seal_line (lines_text body) in
    let of_line = all_parts IsLine body seal is in
    let of_back = all_parts IsReadBack body seal back in
    let of_shallow = all_parts IsShallow body seal shallow in
    let texts : map text_of (body ++ seal ∷ []) ≡ map text_of body ++ text_of seal ∷ [] = map-append text_of body (seal ∷ []) in
    let whole : journal_text base entries end ≡ lines_text (body ++ seal ∷ []) = rw (lines_text_append body (seal ∷ []), append-nil (line_text seal)) refl in
    record {
      lines = map text_of body;
      last = text_of seal;
      whole = ap (λ (t : List ℕ). filled (lines_of t)) whole ∙ ap filled (written_lines (body ++ seal ∷ [])) ∙ written_filled (body ++ seal ∷ []) ∙ texts;
      said = lines_say body of_line.0 of_back.0 of_shallow.0;
      seal = rw (written_joined body) (line_says seal of_line.1 of_back.1 of_shallow.1);
      short = few;
      short_lines = subst (λ (ls : List (List ℕ)). AllByRecursion (λ (line : List ℕ). length line ≤ journal_limits.line) ls) texts (all_short (body ++ seal ∷ []) short);
    }

pub one_journal : OneJournal
one_journal text base entries end base' entries' end' one other =
    let first = journal_reads text base entries end one in
    let second = journal_reads text base' entries' end' other in
    let same : stage.Sealed first.0 first.1 ≡ stage.Sealed second.0 second.1 =
    reads_once stage.Empty (stage.Sealed first.0 first.1) (stage.Sealed second.0 second.1) [] (filled (lines_of text)) first.2 second.2 in
    let front : first.0 ≡ second.0 = cc in
    let draft : first.1 ≡ second.1 = cc in (
      sym first.3 ∙ ap (λ f. state_of f.base) front ∙ second.3,
      sym first.4 ∙ ap (λ f. f.entries) front ∙ second.4,
      sym first.5 ∙ ap state_of draft ∙ second.5,
    )
