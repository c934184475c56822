-- What comes of the lines of a text that are answered, and of a text that says a journal
use Rattle.std.proofs.Common.{◌≡◌, ◌⊎◌, ℕ, zero, suc, ◌+◌, ◌-◌, ◌<◌, ◌≤◌, Bool, true, false, cond, ◌==◌, List, [], ◌∷◌, ◌++◌, length, take, get_or, Option, Some, None, Result, Ok, Err, refl, ap, sym, ◌∙◌, subst, inl, inr, append_assoc, append-nil, arith, length-append}
use Rattle.std.proofs.lemmas.Bool.{cases_lt}
use Rattle.std.proofs.lemmas.List.{take-append-le, get_or_append_left}
use Rattle.std.specs.Io.KnownBytes.{Consumes, IsAtEnd}
use Rattle.std.specs.List.{AllByRecursion, onto_first}
use Rattle.sha2.specs.Hashers.{Holds256}
use Rattle.eu_lines.specs.Lines.{IsJudged, IsWhole, lines_of}
use Rattle.eu_lines.specs.Script.{IsBad, Outcome, Place, Printed, StopsIn, Streams}
use Rattle.eu_lines.specs.declared.faults.ScriptFault.{ScriptFault}
use Rattle.eu_lines.specs.declared.faults.ScriptFault.TheVariants.{BadLine, OutOfMemory, Read, Write}
use Rattle.eu_lines.specs.declared.limits.Limits.{Limits}
use Rattle.eu_model.specs.declared.commands.Entry.{Entry}
use Rattle.eu_model.specs.declared.states.State.{State}
use Rattle.eu_journal_read.specs.Faults.{fault_of}
use Rattle.eu_journal_read.specs.Reader.{Begins, CameTo, EndsBefore, EndsIn, FailsToRead, Follows, IsFirstBad, IsUnsealed, Reads, Refuses, Takes, TellsLine}
use Rattle.eu_journal_read.specs.Said.{SaysJournal, filled, joined, journal_limits}
use Rattle.eu_journal_read.specs.declared.faults.JournalFault.{JournalFault}
use Rattle.eu_journal_read.specs.declared.faults.JournalFault.TheVariants as fault
use Rattle.eu_journal_read.specs.declared.journal.Recorded.{Recorded}
use Rattle.eu_journal_read.specs.declared.reader.JournalReader.{JournalReader}
use Rattle.eu_journal_read.specs.declared.stages.Stage.{Stage}
use Rattle.eu_journal_read.specs.declared.stages.Stage.TheVariants as stage
use Rattle.eu_journal_read.proofs.ReadLemmas.{journal_reads, reads_at, reads_journal, reads_once}

-- ---- lines

abbrev IsShort : List ℕ → Type 0
IsShort line = length line ≤ journal_limits.line

filled-append : (xs ys : List (List ℕ)) → filled (xs ++ ys) ≡ filled xs ++ filled ys
filled-append [] ys = refl
filled-append ([] ∷ xs) ys = filled-append xs ys
filled-append ((b ∷ bs) ∷ xs) ys = ap (λ (ls : List (List ℕ)). (b ∷ bs) ∷ ls) (filled-append xs ys)

onto_front : (x : ℕ) (xs ys : List (List ℕ)) → 0 < length xs → onto_first x (xs ++ ys) ≡ onto_first x xs ++ ys
onto_front x [] ys some = absurd (omega arith)
onto_front x (l ∷ xs) ys some = refl

some_lines : (text : List ℕ) → 0 < length (lines_of text)
some_lines [] = omega arith
some_lines (x ∷ xs) = by (x == 10) (lines_of xs) (some_lines xs)
  where
    by : (b : Bool) (ls : List (List ℕ)) → 0 < length ls → 0 < length (cond b ([] ∷ ls) (onto_first x ls))
    by true ls some = omega arith
    by false [] some = absurd (omega arith)
    by false (l ∷ ls) some = omega arith

-- the lines before an LF, and those after it
lines_of-front : (front more : List ℕ) → lines_of (front ++ 10 ∷ more) ≡ lines_of front ++ lines_of more
lines_of-front [] more = refl
lines_of-front (x ∷ xs) more = ap (λ (ls : List (List ℕ)). cond (x == 10) ([] ∷ ls) (onto_first x ls)) (lines_of-front xs more) ∙ by (x == 10) (lines_of xs) (some_lines xs)
  where
    by : (b : Bool) (ls : List (List ℕ)) → 0 < length ls
        → cond b ([] ∷ (ls ++ lines_of more)) (onto_first x (ls ++ lines_of more)) ≡ cond b ([] ∷ ls) (onto_first x ls) ++ lines_of more
    by true ls some = refl
    by false ls some = onto_front x ls (lines_of more) some

-- ---- lines that were answered

-- they follow one another, and are short
pub printed_reads : (before : Place JournalReader (Unit {0})) (lines : List (List ℕ)) (out : List ℕ) (after : Place JournalReader (Unit {0})) (prefix : List ℕ)
    → Printed journal_limits Takes before lines out after → Holds256 before.state.hasher prefix
    → Reads before.state.stage prefix (filled lines) after.state.stage × Holds256 after.state.hasher (prefix ++ joined (filled lines)) × AllByRecursion IsShort (filled lines)
printed_reads before [] out after prefix printed holds =
    (ap (λ (here : Place JournalReader (Unit {0})). here.state.stage) printed.1, rw (append-nil prefix, printed.1) holds, tt)
printed_reads before ([] ∷ lines) out after prefix printed holds =
    let same : printed.2 ≡ before = printed.3.1 in
    let rest = printed_reads printed.2 lines printed.1 after prefix printed.4 (rw same holds) in
    (subst (λ (here : Place JournalReader (Unit {0})). Reads here.state.stage prefix (filled lines) after.state.stage) same rest.0, rest.1, rest.2)
printed_reads before ((b ∷ bs) ∷ lines) out after prefix printed holds =
    let line = b ∷ bs in
    let takes = printed.3.1.1 prefix holds in
    let rest = printed_reads printed.2 lines printed.1 after (prefix ++ (line ++ 10 ∷ [])) printed.4 takes.1 in (
      (printed.2.state.stage, takes.0, rest.0),
      rw (← append_assoc prefix (line ++ 10 ∷ []) (joined (filled lines))) (rest.1),
      (printed.3.0, rest.2),
    )

-- ---- what came of lines, from how they were answered

-- a bad line isn't empty, and is too long or may not follow
abbrev IsBadAfter : List ℕ → Stage → List ℕ → Type 0
IsBadAfter prefix s line = (0 < length line) × ((journal_limits.line < length line) ⊎ ((t : Stage) → Follows prefix s line t → ⊥))

bad_so : (here : Place JournalReader (Unit {0})) (prefix line : List ℕ) → Holds256 here.state.hasher prefix → IsBad journal_limits Refuses here line → IsBadAfter prefix here.state.stage line
bad_so here prefix [] holds bad = absurd bad
bad_so here prefix (b ∷ bs) holds (inl long) = (omega arith, inl long)
bad_so here prefix (b ∷ bs) holds (inr refuses) = (omega arith, inr (refuses prefix holds))

module _ (before : Place JournalReader (Unit {0})) (empty : before.state.stage ≡ stage.Empty) (holds : Holds256 before.state.hasher []) where
  begins : (lines : List (List ℕ)) (out : List ℕ) (after : Place JournalReader (Unit {0})) → Printed journal_limits Takes before lines out after → Begins lines after.state.stage
  begins lines out after printed =
      let all = printed_reads before lines out after [] printed holds in
      (subst (λ (s : Stage). Reads s [] (filled lines) after.state.stage) empty all.0, all.2)

  first_bad : (lines : List (List ℕ)) (context : Unit {0}) (failed : Bool) (n : ℕ) (out : List ℕ) → StopsIn journal_limits Takes Refuses before lines context failed (BadLine n) out → IsFirstBad lines n
  first_bad lines context failed n out stops =
      let fore = take (n - 1) lines in
      let here : Place JournalReader (Unit {0}) = record { state = stops.2; context = context } in (
        stops.0,
        stops.1,
        stops.2.stage,
        begins fore out here stops.3,
        bad_so here (joined (filled fore)) (get_or lines (n - 1) []) (printed_reads before fore out here [] stops.3 holds).1 stops.4,
      )

  pub came : (limits : Limits) → limits ≡ journal_limits → (after : Place JournalReader (Unit {0})) (streams : Streams) (out : List ℕ)
      → Outcome limits Takes Refuses before after streams (Ok tt) out → CameTo streams.left streams.reader_failed streams.read (Ok after.state.stage)
  unfolding CameTo
  came limits same after streams out so =
      let outcome : Outcome journal_limits Takes Refuses before after streams (Ok tt) out = subst (λ l. Outcome l Takes Refuses before after streams (Ok tt) out) same so in
      (outcome.0, outcome.1, begins (lines_of streams.read) out after outcome.2)

  stopped : (after : Place JournalReader (Unit {0})) (streams : Streams) (f : ScriptFault) (out : List ℕ) → streams.writer_failed ≡ false
      → Outcome journal_limits Takes Refuses before after streams (Err f) out → CameTo streams.left streams.reader_failed streams.read (Err f)
  unfolding CameTo
  stopped after streams (BadLine n) out sound outcome = (outcome.0, outcome.1, first_bad (lines_of outcome.0) after.context streams.writer_failed n out outcome.2)
  stopped after streams Read out sound outcome = (outcome.0, (outcome.1, outcome.2, outcome.3, outcome.4, after.state.stage, begins (lines_of outcome.3) out after outcome.5))
  stopped after streams Write out sound outcome = let wrote : streams.writer_failed ≡ true = outcome.2.0 in cc
  stopped after streams OutOfMemory out sound outcome = tt

  pub came_short : (limits : Limits) → limits ≡ journal_limits → (after : Place JournalReader (Unit {0})) (streams : Streams) (f : ScriptFault) (out : List ℕ) → streams.writer_failed ≡ false
      → Outcome limits Takes Refuses before after streams (Err f) out → CameTo streams.left streams.reader_failed streams.read (Err f)
  came_short limits same after streams f out sound so =
      stopped after streams f out sound (subst (λ l. Outcome l Takes Refuses before after streams (Err f) out) same so)

-- ---- why lines weren't all taken

-- the fault that is told, by why the lines weren't all taken
abbrev refused : JournalFault → Result Recorded JournalFault
refused f = Err f

pub told_of : (r : Result Recorded JournalFault) (f g h : JournalFault) → r ≡ Err f → f ≡ h → r ≡ Err g → h ≡ g
told_of r f g h one from other = let same : refused f ≡ refused g = sym one ∙ other in cc

-- a fault that doesn't tell of the reader is no failed read
pub other_fault : (f : ScriptFault) → (fault_of f ≡ fault.Read → ⊥) → f ≡ Read → ⊥
other_fault f other is = other (ap fault_of is)

pub goes_on : (f : ScriptFault) → fault_of f ≡ fault.EndsEarly → ⊥
goes_on (BadLine n) is = cc
goes_on Read is = cc
goes_on Write is = cc
goes_on OutOfMemory is = cc

pub line_told : (old left : Option (List ℕ)) (failed : Bool) (read : List ℕ) (f : ScriptFault) (n : ℕ) → Consumes old left read → CameTo left failed read (Err f) → fault_of f ≡ fault.BadLine n → TellsLine old left n
unfolding CameTo
line_told old left failed read (BadLine m) n eats came is = let same : m ≡ n = cc in (read, eats, came.0, came.1, rw (← same) (came.2))
line_told old left failed read Read n eats came is = cc
line_told old left failed read Write n eats came is = cc
line_told old left failed read OutOfMemory n eats came is = cc

pub read_told : (old left : Option (List ℕ)) (failed : Bool) (read : List ℕ) (f : ScriptFault) → Consumes old left read → CameTo left failed read (Err f) → fault_of f ≡ fault.Read → FailsToRead old left failed
unfolding CameTo
read_told old left failed read (BadLine m) eats came is = cc
read_told old left failed read Read eats came is = (read, eats, came.0, came.1)
read_told old left failed read Write eats came is = absurd came
read_told old left failed read OutOfMemory eats came is = cc

pub end_told : (old left : Option (List ℕ)) (failed : Bool) (read : List ℕ) (s : Stage) → Consumes old left read → CameTo left failed read (Ok s) → IsUnsealed s → EndsBefore old left
unfolding CameTo
end_told old left failed read s eats came unsealed = (read, eats, came.1, came.0, s, came.2, unsealed)

-- a whole text that was read to the digest says the journal
pub says_journal : (left : Option (List ℕ)) (failed : Bool) (text : List ℕ) (s : Stage) (base : State) (entries : List Entry) (end : State) → CameTo left failed text (Ok s) → EndsIn s base entries end
    → IsAtEnd left × SaysJournal text base entries end
unfolding CameTo EndsIn
says_journal left failed text s base entries end came (f, d, is, same_base, same_entries, same_end) =
    let says = reads_journal (filled (lines_of text)) f d (rw is at came.2.0) in
    (came.1, rw (same_base, same_entries, same_end) (record { lines = says.0; last = says.1; whole = says.2; said = says.3; seal = says.4; short = came.0; short_lines = rw (← says.2) (came.2.1) }))

-- ---- a text that says a journal is read to its end

-- no line that is among those of a text that says a journal is bad
all_at : (xs ys : List (List ℕ)) (y : List ℕ) → AllByRecursion IsShort (xs ++ y ∷ ys) → IsShort y
all_at [] ys y all = all.0
all_at (x ∷ xs) ys y all = all_at xs ys y all.1

-- a place among lines
nth_split : (lines : List (List ℕ)) (k : ℕ) → k < length lines → (more : List (List ℕ)) × (lines ≡ take k lines ++ get_or lines k [] ∷ more)
nth_split [] k lt = absurd (omega arith)
nth_split (l ∷ ls) zero lt = (ls, refl)
nth_split (l ∷ ls) (suc k) lt =
    let rest = nth_split ls k (omega arith) in
    (rest.0, ap (λ (xs : List (List ℕ)). l ∷ xs) rest.1)

past_last : (lines : List (List ℕ)) (k : ℕ) → length lines ≤ k → get_or (lines ++ [] ∷ []) k [] ≡ []
past_last [] zero le = refl
past_last [] (suc k) le = refl
past_last (l ∷ ls) zero le = absurd (omega arith)
past_last (l ∷ ls) (suc k) le = past_last ls k (omega arith)

none_empty : (line : List ℕ) → line ≡ [] → 0 < length line → ⊥
none_empty [] is some = omega (arith, some)
none_empty (b ∷ bs) is some = cc

module _ (text : List ℕ) (base : State) (entries : List Entry) (end : State) (says : SaysJournal text base entries end) where
  not_bad : (lines more : List (List ℕ)) (line : List ℕ) (s : Stage) → lines_of text ≡ lines ++ line ∷ more → Reads stage.Empty [] (filled lines) s → IsBadAfter (joined (filled lines)) s line → ⊥
  not_bad lines more [] s are reads bad = omega (arith, bad.0)
  not_bad lines more (b ∷ bs) s are reads bad =
      let line = b ∷ bs in
      let whole : filled (lines_of text) ≡ filled lines ++ line ∷ filled more = ap filled are ∙ filled-append lines (line ∷ more) in
      let all = journal_reads text base entries end says in
      let there = reads_at stage.Empty (stage.Sealed all.0 all.1) [] (filled lines) (filled more) line (rw (whole) at all.2) in
      let same : there.0 ≡ s = reads_once stage.Empty there.0 s [] (filled lines) there.1 reads in
      let short : IsShort line = all_at (filled lines) (filled more) line (rw (← says.whole, whole) at says.short_lines) in
      elim bad.1 [
        | inl long ↦ absurd (omega (arith, long, short))
        | inr none ↦ none there.2 (rw same at there.3)
      ]

  none_at : (lines more : List (List ℕ)) (k : ℕ) (s : Stage) → lines_of text ≡ lines ++ more → k < length lines → Reads stage.Empty [] (filled (take k lines)) s
      → IsBadAfter (joined (filled (take k lines))) s (get_or lines k []) → ⊥
  none_at lines more k s are lt reads bad =
      let split = nth_split lines k lt in
      not_bad (take k lines) (split.0 ++ more) (get_or lines k []) s
      (are ∙ ap (λ (ls : List (List ℕ)). ls ++ more) split.1 ∙ append_assoc (take k lines) (get_or lines k [] ∷ split.0) more) reads bad

  -- whole lines, and what follows them
  none_in_front : (front rest : List ℕ) (k : ℕ) (s : Stage) → text ≡ front ++ 10 ∷ rest → Reads stage.Empty [] (filled (take k (lines_of front ++ [] ∷ []))) s
      → IsBadAfter (joined (filled (take k (lines_of front ++ [] ∷ [])))) s (get_or (lines_of front ++ [] ∷ []) k []) → ⊥
  none_in_front front rest k s is reads bad =
      elim (cases_lt k (length (lines_of front))) [
        | inl lt ↦
            let taken = take-append-le k (lines_of front) ([] ∷ []) (omega arith) in
            none_at (lines_of front) (lines_of rest) k s (ap lines_of is ∙ lines_of-front front rest) lt (rw taken at reads) (rw (taken, get_or_append_left (lines_of front) ([] ∷ []) [] k lt) at bad)
        | inr ge ↦ none_empty (get_or (lines_of front ++ [] ∷ []) k []) (past_last (lines_of front) k ge) bad.0
      ]

  none_in_whole : (front rest : List ℕ) (n : ℕ) → text ≡ front ++ rest → IsWhole front → IsFirstBad (lines_of front) n → ⊥
  none_in_whole front rest n is (inl nothing) bad =
      none_empty (get_or (lines_of front) (n - 1) []) (rw (nothing) (past_last [] (n - 1) (omega arith))) bad.4.0
  none_in_whole front rest n is (inr some) bad =
      let are : lines_of front ≡ lines_of some.0 ++ [] ∷ [] = ap lines_of some.1 ∙ lines_of-front some.0 [] in
      none_in_front some.0 rest (n - 1) bad.2 (is ∙ rw (some.1) (append_assoc some.0 (10 ∷ []) rest)) (rw are at bad.3.0) (rw are at bad.4)

  known : (left : Option (List ℕ)) (read : List ℕ) → Consumes (Some text) left read → (rest : List ℕ) × (text ≡ read ++ rest) × (IsAtEnd left → rest ≡ [])
  known None read eats = absurd eats
  known (Some rest) read eats = (rest, eats, λ e. e)

  no_bad_line : (left : Option (List ℕ)) (read front : List ℕ) (n : ℕ) → Consumes (Some text) left read → IsJudged journal_limits.text left read front → IsFirstBad (lines_of front) n → ⊥
  no_bad_line left read front n eats (inl judged) bad =
      let rest = known left read eats in
      none_in_whole front (judged.0 ++ rest.0) n (rest.1 ∙ ap (λ (bytes : List ℕ). bytes ++ rest.0) judged.1 ∙ append_assoc front judged.0 rest.0) judged.2 bad
  no_bad_line left read front n eats (inr judged) bad =
      let rest = known left read eats in
      let same : text ≡ front = rest.1 ∙ ap (λ (bytes : List ℕ). read ++ bytes) (rest.2 judged.2) ∙ append-nil read ∙ sym judged.0 in
      none_at (lines_of front) [] (n - 1) bad.2 (ap lines_of same ∙ sym (append-nil (lines_of front))) (omega (arith, bad.0, bad.1)) bad.3.0 bad.4

  reader_failed : (left : Option (List ℕ)) (read : List ℕ) (failed : Bool) → Consumes (Some text) left read → (failed ≡ true) ⊎ (journal_limits.text < length read) → failed ≡ true
  reader_failed left read failed eats (inl so) = so
  reader_failed left read failed eats (inr long) =
      let rest = known left read eats in
      let sum : length text ≡ length read + length rest.0 = ap length rest.1 ∙ length-append read rest.0 in
      absurd (omega (arith, sum, long, says.short))

  -- so no fault comes of it but these
  pub no_fault : (left : Option (List ℕ)) (failed : Bool) (read : List ℕ) (f : ScriptFault) → Consumes (Some text) left read → CameTo left failed read (Err f)
      → (fault_of f ≡ fault.OutOfMemory) ⊎ ((fault_of f ≡ fault.Read) × (failed ≡ true))
  unfolding CameTo
  no_fault left failed read (BadLine n) eats came = absurd (no_bad_line left read came.0 n eats came.1 came.2)
  no_fault left failed read Read eats came = inr (refl, reader_failed left read failed eats came.0)
  no_fault left failed read Write eats came = absurd came
  no_fault left failed read OutOfMemory eats came = inl refl

  -- it is read to the digest
  pub is_sealed : (left : Option (List ℕ)) (failed : Bool) (read : List ℕ) (s : Stage) → Consumes (Some text) left read → CameTo left failed read (Ok s) → IsUnsealed s → ⊥
  unfolding CameTo IsUnsealed
  is_sealed left failed read s eats came unsealed =
      let rest = known left read eats in
      let same : text ≡ read = rest.1 ∙ ap (λ (bytes : List ℕ). read ++ bytes) (rest.2 came.1) ∙ append-nil read in
      let all = journal_reads text base entries end says in
      unsealed all.0 all.1 (reads_once stage.Empty s (stage.Sealed all.0 all.1) [] (filled (lines_of text)) (rw (← same) at came.2.0) all.2)
