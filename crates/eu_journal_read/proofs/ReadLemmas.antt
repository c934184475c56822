-- Texts of lines that are read one after the other
use Rattle.std.proofs.Common.{◌≡◌, ℕ, List, [], ◌∷◌, ◌++◌, Result, Ok, refl, ap, sym, ◌∙◌, append_assoc, append-nil}
use Rattle.hex.specs.Hex.{encode_lower}
use Rattle.sha2.specs.Sha256.{sha256}
use Rattle.eu_journal.specs.Law.{bare_line}
use Rattle.eu_journal_values.specs.declared.faults.LineFault.{LineFault}
use Rattle.eu_journal.specs.declared.lines.JournalLine.{JournalLine}
use Rattle.eu_journal.specs.declared.lines.JournalLine.TheVariants as line
use Rattle.eu_journal_text.specs.Text.{entries_lines, journal_lines, seal_line, state_lines}
use Rattle.eu_model.specs.declared.commands.Entry.{Entry}
use Rattle.eu_model.specs.declared.states.State.{State}
use Rattle.eu_lines.specs.Lines.{lines_of}
use Rattle.eu_journal_read.specs.Drafts.{Draft, state_of}
use Rattle.eu_journal_read.specs.Front.{Front}
use Rattle.eu_journal_read.specs.Reader.{Follows, IsFit, Reads}
use Rattle.eu_journal_read.specs.Said.{IsReadAs, SayLines, SaysJournal, SaysLine, filled, joined}
use Rattle.eu_journal_read.specs.Stages.{take_line}
use Rattle.eu_journal_read.specs.declared.stages.Stage.{Stage}
use Rattle.eu_journal_read.specs.declared.stages.Stage.TheVariants as stage
use Rattle.eu_journal_read.proofs.ForwardLemmas.{Ends, journal_ends}
use Rattle.eu_journal_read.proofs.RunLemmas.{bind_ok, run, take_alike}
use Rattle.eu_journal_read.proofs.SaidLemmas.{IsOpen, Told, adds, bared, seals, take_told, stage_lines}

-- ---- one text after the other

told_more : (before text : List ℕ) (texts : List (List ℕ)) → (before ++ (text ++ 10 ∷ [])) ++ joined texts ≡ before ++ joined (text ∷ texts)
told_more before text texts = append_assoc before (text ++ 10 ∷ []) (joined texts)

pub reads_both : (s t u : Stage) (before : List ℕ) (xs ys : List (List ℕ)) → Reads s before xs t → Reads t (before ++ joined xs) ys u → Reads s before (xs ++ ys) u
reads_both s t u before [] ys first rest = rw (← first, ← append-nil before) rest
reads_both s t u before (x ∷ xs) ys first rest =
    (first.0, first.1, reads_both first.0 t u (before ++ (x ++ 10 ∷ [])) xs ys first.2 (rw (told_more before x xs) rest))

abbrev pub read_line : JournalLine → Result JournalLine LineFault
read_line l = Ok l

abbrev pub taken : Stage → Result Stage LineFault
taken s = Ok s

-- a text is read as one line alone
pub read_once : (text : List ℕ) (l m : JournalLine) → IsReadAs text l → IsReadAs text m → l ≡ m
unfolding IsReadAs
read_once text l m one other = let same : read_line l ≡ read_line m = sym one.1 ∙ other.1 in cc

follows_once : (before : List ℕ) (s : Stage) (text : List ℕ) (t u : Stage) → Follows before s text t → Follows before s text u → t ≡ u
follows_once before s text t u one other =
    let same : one.0 ≡ other.0 = read_once text one.0 other.0 one.1 other.1 in
    let is : taken t ≡ taken u = sym one.2 ∙ ap (take_line s) same ∙ other.2 in cc

pub reads_once : (s t u : Stage) (before : List ℕ) (xs : List (List ℕ)) → Reads s before xs t → Reads s before xs u → t ≡ u
reads_once s t u before [] one other = one ∙ sym other
reads_once s t u before (x ∷ xs) one other =
    let same : one.0 ≡ other.0 = follows_once before s x one.0 other.0 one.1 other.1 in
    reads_once one.0 t u (before ++ (x ++ 10 ∷ [])) xs one.2 (rw same (other.2))

-- a text among them follows those before it
pub reads_at : (s u : Stage) (before : List ℕ) (xs ys : List (List ℕ)) (y : List ℕ) → Reads s before (xs ++ y ∷ ys) u
    → (t : Stage) × Reads s before xs t × (v : Stage) × Follows (before ++ joined xs) t y v
reads_at s u before [] ys y all = (s, refl, all.0, rw (append-nil before) (all.1))
reads_at s u before (x ∷ xs) ys y all =
    let rest = reads_at all.0 u (before ++ (x ++ 10 ∷ [])) xs ys y all.2 in
    (rest.0, (all.0, all.1, rest.1), rest.2, rw (← told_more before x xs) (rest.3))

-- ---- from the lines of a journal

-- nothing follows the digest
after_seal : (f : Front) (d : Draft) (l : JournalLine) (t : Stage) → take_line (stage.Sealed f d) l ≡ Ok t → ⊥
after_seal f d (line.Head h) t is = cc
after_seal f d (line.Lease l) t is = cc
after_seal f d (line.Row id status) t is = cc
after_seal f d line.Peer t is = cc
after_seal f d (line.Waiting task) t is = cc
after_seal f d (line.Flight task) t is = cc
after_seal f d (line.Asked pass number moment command) t is = cc
after_seal f d (line.Answered r) t is = cc
after_seal f d (line.Victim k) t is = cc
after_seal f d (line.Sent task) t is = cc
after_seal f d (line.Digest digest) t is = cc

-- a line after which the journal isn't sealed is no digest
fit_open : (s t : Stage) (before : List ℕ) (l : JournalLine) → take_line s l ≡ Ok t → IsOpen t → IsFit before l
fit_open s t before (line.Head h) is unsealed = tt
fit_open s t before (line.Lease l) is unsealed = tt
fit_open s t before (line.Row id status) is unsealed = tt
fit_open s t before line.Peer is unsealed = tt
fit_open s t before (line.Waiting task) is unsealed = tt
fit_open s t before (line.Flight task) is unsealed = tt
fit_open s t before (line.Asked pass number moment command) is unsealed = tt
fit_open s t before (line.Answered r) is unsealed = tt
fit_open s t before (line.Victim k) is unsealed = tt
fit_open s t before (line.Sent task) is unsealed = tt
fit_open (stage.End f d) t before (line.Digest text) is unsealed =
    let same : stage.Sealed f d ≡ t = cc in
    absurd (rw (← same) at unsealed)
fit_open stage.Empty t before (line.Digest text) is unsealed = cc
fit_open (stage.Base d) t before (line.Digest text) is unsealed = cc
fit_open (stage.Asked f a) t before (line.Digest text) is unsealed = cc
fit_open (stage.Answered f e) t before (line.Digest text) is unsealed = cc
fit_open (stage.Sealed f d) t before (line.Digest text) is unsealed = cc

-- what leads to an end is unsealed before
open_before : (s : Stage) (ls : List JournalLine) (f : Front) (d : Draft) → run s ls ≡ Ok (stage.End f d) → IsOpen s
open_before stage.Empty ls f d is = tt
open_before (stage.Base g) ls f d is = tt
open_before (stage.Asked g a) ls f d is = tt
open_before (stage.Answered g e) ls f d is = tt
open_before (stage.End g e) ls f d is = tt
open_before (stage.Sealed g e) [] f d is = cc
open_before (stage.Sealed g e) (l ∷ ls) f d is =
    let step = bind_ok (take_line (stage.Sealed g e) l) (λ u. run u ls) (stage.End f d) is in
    absurd (after_seal g e l step.0 step.1)

-- texts that say lines are read to where the lines lead
say_reads : (s : Stage) (before : List ℕ) (texts : List (List ℕ)) (ls : List JournalLine) (f : Front) (d : Draft) → SayLines texts ls → run s ls ≡ Ok (stage.End f d) → Reads s before texts (stage.End f d)
say_reads s before [] [] f d say is = let same : stage.End f d ≡ s = cc in same
say_reads s before [] (l ∷ ls) f d say is = absurd say
say_reads s before (text ∷ texts) [] f d say is = absurd say
say_reads s before (text ∷ texts) (l ∷ ls) f d say is =
    let step = bind_ok (take_line s l) (λ u. run u ls) (stage.End f d) is in
    let found = say.0.0 in
    let takes : take_line s found ≡ Ok step.0 = take_alike s found l say.0.2 ∙ step.1 in (
      step.0,
      (found, say.0.1, takes, fit_open s step.0 before found takes (open_before step.0 ls f d step.2)),
      say_reads step.0 (before ++ (text ++ 10 ∷ [])) texts ls f d say.1 step.2,
    )

-- a digest is read as it is
bare_digest : (l : JournalLine) (text : List ℕ) → bare_line l ≡ line.Digest text → l ≡ line.Digest text
bare_digest (line.Digest digest) text is = is
bare_digest (line.Head h) text is = cc
bare_digest (line.Lease l) text is = cc
bare_digest (line.Row id status) text is = cc
bare_digest line.Peer text is = cc
bare_digest (line.Waiting task) text is = cc
bare_digest (line.Flight task) text is = cc
bare_digest (line.Asked pass number moment command) text is = cc
bare_digest (line.Answered r) text is = cc
bare_digest (line.Victim k) text is = cc
bare_digest (line.Sent task) text is = cc

-- the line of the digest is read
seal_reads : (f : Front) (d : Draft) (body last : List ℕ) → SaysLine last (seal_line body) → Follows body (stage.End f d) last (stage.Sealed f d)
seal_reads f d body last says =
    let is = bare_digest says.0 (encode_lower (sha256 body)) says.2 in
    (line.Digest (encode_lower (sha256 body)), rw is at says.1, refl, refl)

-- a text that says a journal is read to its end
pub journal_reads : (text : List ℕ) (base : State) (entries : List Entry) (end : State) → SaysJournal text base entries end
    → (f : Front) × (d : Draft) × Reads stage.Empty [] (filled (lines_of text)) (stage.Sealed f d) × (state_of f.base ≡ base) × (f.entries ≡ entries) × (state_of d ≡ end)
journal_reads text base entries end says =
    let ends : Ends base entries end = journal_ends base entries end in
    let body = say_reads stage.Empty [] says.lines (journal_lines base entries end) ends.front ends.draft says.said ends.runs in
    let seal = seal_reads ends.front ends.draft (joined says.lines) says.last says.seal in (
      ends.front,
      ends.draft,
      rw (says.whole) (reads_both stage.Empty (stage.End ends.front ends.draft) (stage.Sealed ends.front ends.draft) [] says.lines (says.last ∷ []) body (stage.Sealed ends.front ends.draft, seal, refl)),
      ends.base_is,
      ends.entries_are,
      ends.end_is,
    )

-- ---- to the lines of a journal

-- texts that were read up to the digest say these lines
pub record Before (s : Stage) (before : List ℕ) (texts : List (List ℕ)) (f : Front) (d : Draft) : Type 0 where
  pub lines : List (List ℕ)
  pub last : List ℕ
  pub said : List JournalLine
  pub whole : texts ≡ lines ++ last ∷ []
  pub say : SayLines lines said
  pub leads : bared (stage_lines (stage.End f d)) ≡ bared (stage_lines s) ++ bared said
  pub seal : IsReadAs last (seal_line (before ++ joined lines))

-- the digest itself
seal_before : (s : Stage) (before text : List ℕ) (texts : List (List ℕ)) (f g : Front) (d e : Draft) (digest : List ℕ) → s ≡ stage.End g e → IsReadAs text (line.Digest digest) → digest ≡ encode_lower (sha256 before)
    → Reads (stage.Sealed g e) (before ++ (text ++ 10 ∷ [])) texts (stage.Sealed f d) → Before s before (text ∷ texts) f d
seal_before s before text [] f g d e digest from reads fit rest =
    let same : stage.End f d ≡ stage.End g e = cc in
    record {
      lines = [];
      last = text;
      said = [];
      whole = refl;
      say = tt;
      leads = ap (λ (x : Stage). bared (stage_lines x)) (same ∙ sym from) ∙ sym (append-nil (bared (stage_lines s)));
      seal = rw (append-nil before, ← fit) reads;
    }
seal_before s before text (x ∷ xs) f g d e digest from reads fit rest = absurd (after_seal g e rest.1.0 rest.0 rest.1.2)

module _ (f : Front) (d : Draft) where
  pub lines_before : (s : Stage) (before : List ℕ) (texts : List (List ℕ)) → IsOpen s → Reads s before texts (stage.Sealed f d) → Before s before texts f d
  lines_before s before [] unsealed reads = absurd (subst_open s reads unsealed)
    where
      subst_open : (s : Stage) → stage.Sealed f d ≡ s → IsOpen s → ⊥
      subst_open s is unsealed = rw (← is) at unsealed
  lines_before s before (text ∷ texts) unsealed reads =
      by_told (take_told s reads.0 reads.1.0 reads.1.2) (λ still. lines_before reads.0 (before ++ (text ++ 10 ∷ [])) texts still reads.2)
    where
      by_told : Told s reads.1.0 reads.0 → (IsOpen reads.0 → Before reads.0 (before ++ (text ++ 10 ∷ [])) texts f d) → Before s before (text ∷ texts) f d
      by_told (seals g e digest from is to) later =
          seal_before s before text texts f g d e digest from (rw is at reads.1.1) (rw is at reads.1.3) (rw to at reads.2)
      by_told (adds still is) later =
          let rest = later still in
          record {
            lines = text ∷ rest.lines;
            last = rest.last;
            said = reads.1.0 ∷ rest.said;
            whole = ap (λ (xs : List (List ℕ)). text ∷ xs) rest.whole;
            say = ((reads.1.0, reads.1.1, refl), rest.say);
            leads = rest.leads ∙ ap (λ (xs : List JournalLine). xs ++ bared rest.said) is ∙ append_assoc (bared (stage_lines s)) (bare_line reads.1.0 ∷ []) (bared rest.said);
            seal = rw (← told_more before text rest.lines) (rest.seal);
          }

-- what says lines says any that are the same but for victims and tasks within replies
say_alike : (texts : List (List ℕ)) (ls ms : List JournalLine) → SayLines texts ls → bared ms ≡ bared ls → SayLines texts ms
say_alike [] [] [] say same = tt
say_alike [] [] (m ∷ ms) say same = cc
say_alike [] (l ∷ ls) ms say same = absurd say
say_alike (text ∷ texts) [] ms say same = absurd say
say_alike (text ∷ texts) (l ∷ ls) [] say same = cc
say_alike (text ∷ texts) (l ∷ ls) (m ∷ ms) say same =
    let first : bare_line m ≡ bare_line l = cc in
    let rest : bared ms ≡ bared ls = cc in
    ((say.0.0, say.0.1, say.0.2 ∙ sym first), say_alike texts ls ms say.1 rest)

-- what was told at the end are the journal's lines
end_lines : (f : Front) (d : Draft) → stage_lines (stage.End f d) ≡ journal_lines (state_of f.base) f.entries (state_of d)
end_lines f d = append_assoc (state_lines (state_of f.base)) (entries_lines f.entries) (state_lines (state_of d))

-- texts that were read to the end say the journal
pub reads_journal : (texts : List (List ℕ)) (f : Front) (d : Draft) → Reads stage.Empty [] texts (stage.Sealed f d)
    → (lines : List (List ℕ)) × (last : List ℕ) × (texts ≡ lines ++ last ∷ []) × SayLines lines (journal_lines (state_of f.base) f.entries (state_of d)) × SaysLine last (seal_line (joined lines))
reads_journal texts f d reads =
    let found = lines_before f d stage.Empty [] texts tt reads in
    let same : bared (journal_lines (state_of f.base) f.entries (state_of d)) ≡ bared found.said = ap bared (sym (end_lines f d)) ∙ found.leads in
    (found.lines, found.last, found.whole, say_alike found.lines found.said (journal_lines (state_of f.base) f.entries (state_of d)) found.say same, (seal_line (joined found.lines), found.seal, refl))
