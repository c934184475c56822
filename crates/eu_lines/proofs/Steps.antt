-- One line after the other.
use Rattle.std.proofs.Common.{◌≡◌, ℕ, ◌+◌, ◌-◌, ◌<◌, ◌≤◌, Bool, true, List, [], ◌∷◌, ◌++◌, length, take, get_or, Option, refl, ap, sym, ◌∙◌, subst, inl, inr, append_assoc, append-nil, arith, length-append}
use Rattle.std.proofs.Math.Seq.{take-append-add}
use Rattle.std.proofs.lemmas.List.{take_at, take_all, take-append-le, get_or_at, get_or_append_left}
use Rattle.std.specs.Io.KnownBytes.{Appends}
use Rattle.eu_lines.specs.declared.faults.LineError.{LineError}
use Rattle.eu_lines.specs.declared.faults.LineError.TheVariants as line_errors
use Rattle.eu_lines.specs.declared.faults.ScriptFault.{ScriptFault}
use Rattle.eu_lines.specs.declared.faults.ScriptFault.TheVariants.{BadLine, Read, Write, OutOfMemory}
use Rattle.eu_lines.specs.declared.limits.Limits.{Limits}
use Rattle.eu_lines.specs.declared.run.Cutter.{Cutter}
use Rattle.eu_lines.specs.Faults.{fault_at}
use Rattle.eu_lines.specs.Lines.{lines_of, IsWhole, HasNoEnd, IsKept}
use Rattle.eu_lines.specs.Script.{Place, Prints, Printed, IsBad, StopsIn}
use Rattle.eu_lines.specs.Steps.{Start, Standing, Stop, Shown, Stands, Stopped, StoppedWithin}
use Rattle.eu_lines.proofs.Bytes.{wrote_more, wrote_so}
use Rattle.eu_lines.proofs.Texts.{no_end_append, lines_of-line}

-- a line further
pub goes_to : (done rest part after chunk : List ℕ) → chunk ≡ done ++ rest → rest ≡ part ++ 10 ∷ after → chunk ≡ (done ++ (part ++ 10 ∷ [])) ++ after
goes_to done rest part after chunk e f = rw (e, f) (simp append_assoc)

module _ {S X : Type 0} (limits : Limits) (answers : Place S X → List ℕ → List ℕ → Place S X → Type 0) where
  pub printed_next : (before : Place S X) (ls : List (List ℕ)) (line out one : List ℕ) (middle after : Place S X)
      → Printed limits answers before ls out middle → Prints limits answers middle line one after → Printed limits answers before (ls ++ line ∷ []) (out ++ one) after
  printed_next before [] line out one middle after p q =
      (one, [], after, subst (λ (here : Place S X). Prints limits answers here line one after) p.1 q, (refl, refl), rw (p.0, append-nil) refl)
  printed_next before (l ∷ ls) line out one middle after p q =
      (p.0, p.1 ++ one, p.2, p.3, printed_next p.2 ls line p.1 one middle after p.4 q, rw (p.5) (append_assoc p.0 p.1 one))

  -- one line more is answered
  pub shown_line : (start : Start S X) (now : Standing S X) (run : Cutter) (after : Place S X) (lines : List (List ℕ)) (line one : List ℕ)
      → Shown limits answers start lines now → Prints limits answers now.place line one after → run.waiting.items ≡ now.run.waiting.items ++ one
      → Shown limits answers start (lines ++ line ∷ []) (record { run = run; place = after; holds = now.holds })
  shown_line start now run after lines line one p q e =
      wrote_so start.holds now.holds (λ out. Printed limits answers start.place lines (out ++ now.run.waiting.items) now.place)
      (λ out. Printed limits answers start.place (lines ++ line ∷ []) (out ++ run.waiting.items) after) p
      (λ out h. rw (e, ← append_assoc) (printed_next start.place lines line (out ++ now.run.waiting.items) one now.place after h q))

  -- what waits is written
  pub shown_written : (start : Start S X) (now : Standing S X) (run : Cutter) (holds : Option (List ℕ)) (lines : List (List ℕ))
      → Shown limits answers start lines now → Appends now.holds holds now.run.waiting.items → run.waiting.items ≡ []
      → Shown limits answers start lines (record { run = run; place = now.place; holds = holds })
  shown_written start now run holds lines p a e =
      wrote_more start.holds now.holds holds now.run.waiting.items (λ out. Printed limits answers start.place lines (out ++ now.run.waiting.items) now.place)
      (λ out. Printed limits answers start.place lines (out ++ run.waiting.items) now.place) p a
      (λ out h. rw (e, append-nil) h)

module _ {S X : Type 0} (limits : Limits) (answers : Place S X → List ℕ → List ℕ → Place S X → Type 0) (refuses : Place S X → List ℕ → Type 0) where
  stops_at : (error : LineError) (before here : Place S X) (lines : List (List ℕ)) (line out : List ℕ) (context : X) (failed : Bool)
      → (error ≡ line_errors.Bad → IsBad limits refuses here line) → (error ≡ line_errors.Bad → context ≡ here.context)
      → Printed limits answers before lines out here → StopsIn limits answers refuses before (lines ++ line ∷ []) context failed (fault_at error (length lines + 1)) out
  stops_at line_errors.Bad before here lines line out context failed bad same p =
      let k : length lines + 1 - 1 ≡ length lines = omega arith in
      let all : take (length lines) (lines ++ line ∷ []) ≡ lines = take_at lines (line ∷ []) (length lines) refl in
      let last : get_or (lines ++ line ∷ []) (length lines) [] ≡ line = get_or_at lines line [] [] (length lines) refl in
      (omega arith, omega (arith, length-append lines (line ∷ [])), here.state, rw (k, all, same refl) p, rw (k, last, same refl) (bad refl))
  stops_at line_errors.OutOfMemory before here lines line out context failed bad same p =
      let all : take (length lines) (lines ++ line ∷ []) ≡ lines = take_at lines (line ∷ []) (length lines) refl in
      (length lines, omega (arith, length-append lines (line ∷ [])), here, rw all p)

  -- a line is not answered, and what waits is written
  pub stopped_line : (error : LineError) (start : Start S X) (now : Standing S X) (stop : Stop X) (lines : List (List ℕ)) (line : List ℕ) (number : ℕ)
      → Shown limits answers start lines now → number ≡ length lines → (error ≡ line_errors.Bad → IsBad limits refuses now.place line) → (error ≡ line_errors.Bad → stop.context ≡ now.place.context)
      → Appends now.holds stop.holds now.run.waiting.items → Stopped limits answers refuses start (lines ++ line ∷ []) stop (fault_at error (number + 1))
  stopped_line error start now stop lines line number p e bad same a =
      wrote_more start.holds now.holds stop.holds now.run.waiting.items (λ out. Printed limits answers start.place lines (out ++ now.run.waiting.items) now.place)
      (StopsIn limits answers refuses start.place (lines ++ line ∷ []) stop.context stop.failed (fault_at error (number + 1))) p a
      (λ out h. rw e (stops_at error start.place now.place lines line (out ++ now.run.waiting.items) stop.context stop.failed bad same h))

  -- what waits can't be written
  pub stopped_writing : (start : Start S X) (now : Standing S X) (stop : Stop X) (lines : List (List ℕ)) (k : ℕ)
      → Shown limits answers start lines now → stop.failed ≡ true → Appends now.holds stop.holds (take k now.run.waiting.items) → Stopped limits answers refuses start lines stop Write
  stopped_writing start now stop lines k p f a =
      let waiting = now.run.waiting.items in
      wrote_more start.holds now.holds stop.holds (take k waiting) (λ out. Printed limits answers start.place lines (out ++ waiting) now.place)
      (StopsIn limits answers refuses start.place lines stop.context stop.failed Write) p a
      (λ out h. (f, length lines, omega arith, now.place, out ++ waiting, rw (take_all (length lines) lines (omega arith)) h, length out + k, sym (take-append-add out waiting k)))

  -- memory ran out after these lines
  pub stopped_memory : (start : Start S X) (now : Standing S X) (stop : Stop X) (lines : List (List ℕ))
      → Shown limits answers start lines now → Appends now.holds stop.holds now.run.waiting.items → Stopped limits answers refuses start lines stop OutOfMemory
  stopped_memory start now stop lines p a =
      wrote_more start.holds now.holds stop.holds now.run.waiting.items (λ out. Printed limits answers start.place lines (out ++ now.run.waiting.items) now.place)
      (StopsIn limits answers refuses start.place lines stop.context stop.failed OutOfMemory) p a
      (λ out h. (length lines, omega arith, now.place, rw (take_all (length lines) lines (omega arith)) h))

  -- what stopped in some lines stopped in more
  stops_more : (fault : ScriptFault) (before : Place S X) (lines more : List (List ℕ)) (context : X) (failed : Bool) (out : List ℕ)
      → StopsIn limits answers refuses before lines context failed fault out → StopsIn limits answers refuses before (lines ++ more) context failed fault out
  stops_more (BadLine n) before lines more context failed out p =
      let within : n ≤ length lines = p.1 in
      let some : 0 < n = p.0 in
      let all : take (n - 1) (lines ++ more) ≡ take (n - 1) lines = take-append-le (n - 1) lines more (omega arith) in
      let last : get_or (lines ++ more) (n - 1) [] ≡ get_or lines (n - 1) [] = get_or_append_left lines more [] (n - 1) (omega arith) in
      (p.0, omega (arith, length-append lines more), p.2, rw all (p.3), rw last (p.4))
  stops_more OutOfMemory before lines more context failed out p =
      let within : p.0 ≤ length lines = p.1 in
      let all : take p.0 (lines ++ more) ≡ take p.0 lines = take-append-le p.0 lines more within in
      (p.0, omega (arith, length-append lines more), p.2, rw all (p.3))
  stops_more Write before lines more context failed out p =
      let within : p.1 ≤ length lines = p.2 in
      let all : take p.1 (lines ++ more) ≡ take p.1 lines = take-append-le p.1 lines more within in
      (p.0, p.1, omega (arith, length-append lines more), p.3, p.4, rw all (p.5), p.6, p.7)
  stops_more Read before lines more context failed out p = absurd p

  pub stopped_more : (fault : ScriptFault) (start : Start S X) (lines more : List (List ℕ)) (stop : Stop X)
      → Stopped limits answers refuses start lines stop fault → Stopped limits answers refuses start (lines ++ more) stop fault
  stopped_more fault start lines more stop p =
      wrote_so start.holds stop.holds (StopsIn limits answers refuses start.place lines stop.context stop.failed fault) (StopsIn limits answers refuses start.place (lines ++ more) stop.context stop.failed fault) p
      (λ out h. stops_more fault start.place lines more stop.context stop.failed out h)

  -- whole lines have no more lines than these, and the empty one after them
  pub lines_whole : (front : List ℕ) (lines : List (List ℕ)) → ((more : List ℕ) → lines_of (front ++ more) ≡ lines ++ lines_of more) → lines_of front ≡ lines ++ [] ∷ []
  lines_whole front lines cuts = sym (ap lines_of (append-nil front)) ∙ cuts []

  -- what stopped in the lines so far stopped within the text
  stopped_here : (fault : ScriptFault) (start : Start S X) (text more : List ℕ) (now : Standing S X) (stop : Stop X)
      (st : Stands limits answers start text now) → Stopped limits answers refuses start st.lines stop fault → StoppedWithin limits answers refuses start (text ++ more) stop fault
  stopped_here fault start text more now stop st p =
      wrote_so start.holds stop.holds (StopsIn limits answers refuses start.place st.lines stop.context stop.failed fault)
      (λ out. (front : List ℕ) × (rest : List ℕ) × (text ++ more ≡ front ++ rest) × IsWhole front × StopsIn limits answers refuses start.place (lines_of front) stop.context stop.failed fault out) p
      (λ out h. (
        st.front,
        st.tail ++ more,
        rw (st.whole) (append_assoc st.front st.tail more),
        st.ends,
        rw (lines_whole st.front st.lines st.cuts) (stops_more fault start.place st.lines ([] ∷ []) stop.context stop.failed out h),
      ))

  -- the lines so far, and one more
  pub lines_more : (start : Start S X) (text part : List ℕ) (now : Standing S X) (st : Stands limits answers start text now) → HasNoEnd part
      → (more : List ℕ) → lines_of ((st.front ++ ((st.tail ++ part) ++ 10 ∷ [])) ++ more) ≡ (st.lines ++ (st.tail ++ part) ∷ []) ++ lines_of more
  lines_more start text part now st h more =
      let line = st.tail ++ part in
      let same : (st.front ++ (line ++ 10 ∷ [])) ++ more ≡ st.front ++ (line ++ 10 ∷ more) = simp append_assoc in
      let one : lines_of (line ++ 10 ∷ more) ≡ line ∷ lines_of more = lines_of-line line more (no_end_append st.tail part st.unended h) in
      ap lines_of same ∙ st.cuts (line ++ 10 ∷ more) ∙ ap (λ (ls : List (List ℕ)). st.lines ++ ls) one ∙ sym (append_assoc st.lines (line ∷ []) (lines_of more))

  -- what stopped in the next line stopped within the text
  stopped_next : (fault : ScriptFault) (start : Start S X) (text part after : List ℕ) (now : Standing S X) (stop : Stop X)
      (st : Stands limits answers start text now) → HasNoEnd part → Stopped limits answers refuses start (st.lines ++ (st.tail ++ part) ∷ []) stop fault
      → StoppedWithin limits answers refuses start (text ++ (part ++ 10 ∷ after)) stop fault
  stopped_next fault start text part after now stop st h p =
      let line = st.tail ++ part in
      let whole = st.front ++ (line ++ 10 ∷ []) in
      wrote_so start.holds stop.holds (StopsIn limits answers refuses start.place (st.lines ++ line ∷ []) stop.context stop.failed fault)
      (λ out. (front : List ℕ) × (rest : List ℕ) × (text ++ (part ++ 10 ∷ after) ≡ front ++ rest) × IsWhole front × StopsIn limits answers refuses start.place (lines_of front) stop.context stop.failed fault out) p
      (λ out q. (
        whole,
        after,
        rw (st.whole) (simp append_assoc),
        inr (st.front ++ line, sym (append_assoc st.front line (10 ∷ []))),
        rw (lines_whole whole (st.lines ++ line ∷ []) (lines_more start text part now st h)) (stops_more fault start.place (st.lines ++ line ∷ []) ([] ∷ []) stop.context stop.failed out q),
      ))

  -- the next line is answered
  stands_line : (start : Start S X) (text part : List ℕ) (now next : Standing S X)
      (st : Stands limits answers start text now) → HasNoEnd part → Shown limits answers start (st.lines ++ (st.tail ++ part) ∷ []) next
      → next.run.partial.items ≡ [] → next.run.number ≡ now.run.number + 1 → Stands limits answers start (text ++ (part ++ 10 ∷ [])) next
  stands_line start text part now next st h p k c =
      let line = st.tail ++ part in
      record {
        front = st.front ++ (line ++ 10 ∷ []);
        tail = [];
        lines = st.lines ++ line ∷ [];
        whole = rw (st.whole) (simp (append_assoc, append-nil));
        ends = inr (st.front ++ line, sym (append_assoc st.front line (10 ∷ [])));
        unended = tt;
        keeps = inl (k, omega arith);
        cuts = lines_more start text part now st h;
        counts = omega (arith, c, st.counts, length-append st.lines (line ∷ []));
        shown = p;
      }

  -- the rest is kept, and what waited is written
  stands_rest : (start : Start S X) (text rest : List ℕ) (now : Standing S X) (run : Cutter) (holds : Option (List ℕ))
      (st : Stands limits answers start text now) → HasNoEnd rest → ((line : List ℕ) → IsKept limits.line now.run.partial.items line → IsKept limits.line run.partial.items (line ++ rest))
      → run.number ≡ now.run.number → Appends now.holds holds now.run.waiting.items → run.waiting.items ≡ []
      → Stands limits answers start (text ++ rest) (record { run = run; place = now.place; holds = holds })
  stands_rest start text rest now run holds st h k c a e = record {
    front = st.front;
    tail = st.tail ++ rest;
    lines = st.lines;
    whole = rw (st.whole) (append_assoc st.front st.tail rest);
    ends = st.ends;
    unended = no_end_append st.tail rest st.unended h;
    keeps = k st.tail st.keeps;
    cuts = st.cuts;
    counts = c ∙ st.counts;
    shown = shown_written limits answers start now run holds st.lines st.shown a e;
  }

  -- the same where the text ends within a chunk
  pub stopped_here_in : (fault : ScriptFault) (start : Start S X) (text done rest chunk : List ℕ) (now : Standing S X) (stop : Stop X) → chunk ≡ done ++ rest
      → (st : Stands limits answers start (text ++ done) now) → Stopped limits answers refuses start st.lines stop fault → StoppedWithin limits answers refuses start (text ++ chunk) stop fault
  stopped_here_in fault start text done rest chunk now stop e st p =
      let same : (text ++ done) ++ rest ≡ text ++ chunk = rw e (append_assoc text done rest) in
      subst (λ (bytes : List ℕ). StoppedWithin limits answers refuses start bytes stop fault) same (stopped_here fault start (text ++ done) rest now stop st p)

  pub stopped_next_in : (fault : ScriptFault) (start : Start S X) (text done rest part after chunk : List ℕ) (now : Standing S X) (stop : Stop X) → chunk ≡ done ++ rest
      → rest ≡ part ++ 10 ∷ after → HasNoEnd part → (st : Stands limits answers start (text ++ done) now) → Stopped limits answers refuses start (st.lines ++ (st.tail ++ part) ∷ []) stop fault
      → StoppedWithin limits answers refuses start (text ++ chunk) stop fault
  stopped_next_in fault start text done rest part after chunk now stop e f h st p =
      let same : (text ++ done) ++ (part ++ 10 ∷ after) ≡ text ++ chunk = rw (e, f) (append_assoc text done (part ++ 10 ∷ after)) in
      subst (λ (bytes : List ℕ). StoppedWithin limits answers refuses start bytes stop fault) same (stopped_next fault start (text ++ done) part after now stop st h p)

  pub stands_line_in : (start : Start S X) (text done part : List ℕ) (now next : Standing S X) → HasNoEnd part
      → (st : Stands limits answers start (text ++ done) now) → Shown limits answers start (st.lines ++ (st.tail ++ part) ∷ []) next
      → next.run.partial.items ≡ [] → next.run.number ≡ now.run.number + 1 → Stands limits answers start (text ++ (done ++ (part ++ 10 ∷ []))) next
  stands_line_in start text done part now next h st p k c =
      subst (λ (bytes : List ℕ). Stands limits answers start bytes next) (append_assoc text done (part ++ 10 ∷ [])) (stands_line start (text ++ done) part now next st h p k c)

  pub stands_rest_in : (start : Start S X) (text done rest chunk : List ℕ) (now : Standing S X) (run : Cutter) (holds : Option (List ℕ)) → chunk ≡ done ++ rest → HasNoEnd rest
      → (st : Stands limits answers start (text ++ done) now) → ((line : List ℕ) → IsKept limits.line now.run.partial.items line → IsKept limits.line run.partial.items (line ++ rest))
      → run.number ≡ now.run.number → Appends now.holds holds now.run.waiting.items → run.waiting.items ≡ []
      → Stands limits answers start (text ++ chunk) (record { run = run; place = now.place; holds = holds })
  stands_rest_in start text done rest chunk now run holds e h st k c a w =
      let same : (text ++ done) ++ rest ≡ text ++ chunk = rw e (append_assoc text done rest) in
      subst (λ (bytes : List ℕ). Stands limits answers start bytes (record { run = run; place = now.place; holds = holds })) same (stands_rest start (text ++ done) rest now run holds st h k c a w)
