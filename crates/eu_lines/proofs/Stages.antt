-- One read after the other.
use Rattle.std.proofs.Common.{◌≡◌, ◌⊎◌, ℕ, ◌+◌, ◌-◌, ◌<◌, ◌≤◌, min, Bool, true, List, [], ◌∷◌, ◌++◌, length, take, drop, Option, Result, Ok, Err, OnOk, IfErr, refl, ap, sym, ◌∙◌, subst, inl, inr, append_assoc, append-nil, arith, length-append, length-take, length-drop}
use Rattle.std.proofs.KnownBytes.{Consumes-nil, Consumes-trans, Consumes-kept}
use Rattle.std.proofs.lemmas.List.{take-append-drop, take-take}
use Rattle.std.specs.Io.KnownBytes.{Consumes, Keeps, IsAtEnd}
use Rattle.eu_lines.specs.declared.faults.ScriptFault.{ScriptFault}
use Rattle.eu_lines.specs.declared.faults.ScriptFault.TheVariants.{BadLine, Read, Write, OutOfMemory}
use Rattle.eu_lines.specs.declared.limits.Limits.{Limits}
use Rattle.eu_lines.specs.declared.run.Cutter.{Cutter}
use Rattle.eu_lines.specs.Lines.{lines_of, IsWhole, IsWithinBound, IsJudged}
use Rattle.eu_lines.specs.Script.{Place, Streams, Wrote, Printed, StopsIn, Outcome}
use Rattle.eu_lines.specs.Steps.{Start, Standing, Stop, Stands, StoppedWithin, Adds, Takes, StopsAdding, StopsTaking}
use Rattle.eu_lines.proofs.Bytes.{wrote_none, wrote_so}
use Rattle.eu_lines.proofs.Steps.{printed_next, lines_whole}
use Rattle.eu_lines.proofs.Texts.{lines_of-tail}

-- so many bytes were read, and the script stands after those within the bound
pub record Stage {S X : Type 0} (limits : Limits) (answers : Place S X → List ℕ → List ℕ → Place S X → Type 0) (start : Start S X) (before left : Option (List ℕ)) (taken : ℕ) (now : Standing S X) : Type 0 where
  pub read : List ℕ
  pub text : List ℕ
  pub consumed : Consumes before left read
  pub within : IsWithinBound limits.text read text
  pub counts : length read ≡ taken
  pub stands : Stands limits answers start text now

-- all that was read is within the bound
nothing_past : (most : ℕ) (read text rest : List ℕ) → read ≡ text ++ rest → (0 < length rest → length text ≡ most) → length read ≤ most → read ≡ text
nothing_past most read text [] e full le = e ∙ append-nil text
nothing_past most read text (b ∷ bs) e full le =
    let long : length text ≡ most = full (omega arith) in
    absurd (omega (arith, rw e at le, length-append text (b ∷ bs)))

all_within : (most : ℕ) (read text : List ℕ) → IsWithinBound most read text → length read ≤ most → read ≡ text
all_within most read text w le = nothing_past most read text w.0 w.1 w.3 le

-- more is read
within_more : (most : ℕ) (read text buffer : List ℕ) (count fresh : ℕ) → IsWithinBound most read text → length read ≤ most → count ≤ length buffer → fresh ≡ min count (most - length read)
    → IsWithinBound most (read ++ take count buffer) (text ++ take fresh buffer)
within_more most read text buffer count fresh w le fits e =
    let same : read ≡ text = all_within most read text w le in
    let few : fresh ≤ count = omega arith in
    let front : take fresh (take count buffer) ≡ take fresh buffer = take-take fresh count buffer few in
    let parts : take fresh buffer ++ drop fresh (take count buffer) ≡ take count buffer = rw (← front) (take-append-drop fresh (take count buffer)) in
    let long : length (take fresh buffer) ≡ fresh = omega (arith, length-take fresh buffer) in
    let sum : length (text ++ take fresh buffer) ≡ length read + fresh = rw same (omega (arith, length-append text (take fresh buffer), long)) in (
      drop fresh (take count buffer),
      ap (λ (bytes : List ℕ). bytes ++ take count buffer) same ∙ ap (λ (bytes : List ℕ). text ++ bytes) (sym parts) ∙ sym (append_assoc text (take fresh buffer) (drop fresh (take count buffer))),
      omega (arith, sum),
      λ past. omega (arith, sum, length-drop fresh (take count buffer), length-take count buffer),
    )

module _ {S X : Type 0} (limits : Limits) (answers : Place S X → List ℕ → List ℕ → Place S X → Type 0) (refuses : Place S X → List ℕ → Type 0) where
  -- before the first read
  pub stage_start : (start : Start S X) (before : Option (List ℕ)) (run : Cutter) → run.partial.items ≡ [] → run.number ≡ 0 → run.waiting.items ≡ []
      → Stage limits answers start before before 0 (record { run = run; place = start.place; holds = start.holds })
  stage_start start before run k n w = record {
    read = [];
    text = [];
    consumed = Consumes-nil before;
    within = ([], refl, omega arith, λ past. absurd (omega arith));
    counts = refl;
    stands = record {
      front = [];
      tail = [];
      lines = [];
      whole = refl;
      ends = inl refl;
      unended = tt;
      keeps = inl (k, omega arith);
      cuts = λ more. refl;
      counts = n;
      shown = wrote_none start.holds (λ out. Printed limits answers start.place [] (out ++ run.waiting.items) start.place) (rw w (refl, refl));
    };
  }

  -- a chunk is taken
  pub stage_more : (start : Start S X) (before left left' : Option (List ℕ)) (taken count fresh : ℕ) (buffer part : List ℕ) (now next : Standing S X)
      → Stage limits answers start before left taken now → taken ≤ limits.text → Consumes left left' (take count buffer) → count ≤ length buffer → fresh ≡ min count (limits.text - taken)
      → part ≡ take fresh buffer → Takes limits answers now part next → Stage limits answers start before left' (taken + count) next
  stage_more start before left left' taken count fresh buffer part now next st le eats fits e same takes = record {
    read = st.read ++ take count buffer;
    text = st.text ++ take fresh buffer;
    consumed = Consumes-trans before left left' st.read (take count buffer) st.consumed eats;
    within = within_more limits.text st.read st.text buffer count fresh st.within (omega (arith, st.counts)) fits (rw (st.counts) e);
    counts = omega (arith, st.counts, length-append st.read (take count buffer), length-take count buffer);
    stands = subst (λ (bytes : List ℕ). Stands limits answers start (st.text ++ bytes) next) same (takes start st.text st.stands);
  }

  -- a fault in whole lines within the bound
  outcome_within : (fault : ScriptFault) (before after : Place S X) (streams : Streams) (front out : List ℕ) → IsJudged limits.text streams.left streams.read front
      → StopsIn limits answers refuses before (lines_of front) after.context streams.writer_failed fault out → Outcome limits answers refuses before after streams (Err fault) out
  outcome_within (BadLine n) before after streams front out j p = (front, j, p)
  outcome_within OutOfMemory before after streams front out j p = (front, j, p)
  outcome_within Write before after streams front out j p = (front, j, p)
  outcome_within Read before after streams front out j p = absurd p

  -- the bytes that a script read, and how it ended
  abbrev pub Answered : Start S X → Option (List ℕ) → Option (List ℕ) → Bool → Place S X → Option (List ℕ) → Bool → Result (Unit {0}) ScriptFault → Type 0
  Answered start before left reader_failed after holds failed result =
      (read : List ℕ) × Consumes before left read
      × Wrote start.holds holds (Outcome limits answers refuses start.place after (record { read = read; left = left; reader_failed = reader_failed; writer_failed = failed }) result)

  -- there is no memory at the start
  pub ends_at_once : (start : Start S X) (before : Option (List ℕ)) (reader_failed failed : Bool) → Answered start before before reader_failed start.place start.holds failed (Err OutOfMemory)
  ends_at_once start before reader_failed failed = (
    [],
    Consumes-nil before,
    wrote_none start.holds (Outcome limits answers refuses start.place start.place (record { read = []; left = before; reader_failed = reader_failed; writer_failed = failed }) (Err OutOfMemory))
        ([], inl ([], refl, inl refl, omega arith), (0, omega arith, start.place, (refl, refl))),
  )

  -- a fault within a chunk
  pub ends_within : (fault : ScriptFault) (start : Start S X) (before left left' : Option (List ℕ)) (taken count fresh : ℕ) (buffer part : List ℕ) (now : Standing S X) (stop : Stop X) (state : S) (reader_failed : Bool)
      → Stage limits answers start before left taken now → taken ≤ limits.text → Consumes left left' (take count buffer) → count ≤ length buffer → fresh ≡ min count (limits.text - taken)
      → part ≡ take fresh buffer → StopsTaking limits answers refuses now part stop fault
      → Answered start before left' reader_failed (record { state = state; context = stop.context }) stop.holds stop.failed (Err fault)
  ends_within fault start before left left' taken count fresh buffer part now stop state reader_failed st le eats fits e same stops =
      let read = st.read ++ take count buffer in
      let text = st.text ++ take fresh buffer in
      let within = within_more limits.text st.read st.text buffer count fresh st.within (omega (arith, st.counts)) fits (rw (st.counts) e) in
      let after : Place S X = record { state = state; context = stop.context } in
      let streams : Streams = record { read = read; left = left'; reader_failed = reader_failed; writer_failed = stop.failed } in (
        read,
        Consumes-trans before left left' st.read (take count buffer) st.consumed eats,
        wrote_so start.holds stop.holds (λ out. (front : List ℕ) × (rest : List ℕ) × (text ≡ front ++ rest) × IsWhole front × StopsIn limits answers refuses start.place (lines_of front) stop.context stop.failed fault out)
            (Outcome limits answers refuses start.place after streams (Err fault))
            (subst (λ (bytes : List ℕ). StoppedWithin limits answers refuses start (st.text ++ bytes) stop fault) same (stops start st.text st.stands))
            (λ out q.
            let whole : read ≡ q.0 ++ (q.1 ++ within.0) = within.1 ∙ rw (q.2) (append_assoc q.0 q.1 within.0) in
            let long : length text ≡ length q.0 + length q.1 = rw (q.2) (length-append q.0 q.1) in
            outcome_within fault start.place after streams q.0 out (inl (q.1 ++ within.0, whole, q.3, omega (arith, within.2, long))) q.4),
      )

  -- the reader failed, or the bound is passed
  pub ends_by_read : (start : Start S X) (before left left' : Option (List ℕ)) (taken : ℕ) (now : Standing S X) (reader_failed failed : Bool)
      → Stage limits answers start before left taken now → Keeps left left' → now.run.waiting.items ≡ [] → ((read : List ℕ) → length read ≡ taken → (reader_failed ≡ true) ⊎ (limits.text < length read))
      → Answered start before left' reader_failed now.place now.holds failed (Err Read)
  ends_by_read start before left left' taken now reader_failed failed st kept w why =
      let here = st.stands in
      let waiting = now.run.waiting.items in (
        st.read,
        Consumes-kept before left left' st.read st.consumed kept,
        wrote_so start.holds now.holds (λ out. Printed limits answers start.place here.lines (out ++ waiting) now.place)
            (Outcome limits answers refuses start.place now.place (record { read = st.read; left = left'; reader_failed = reader_failed; writer_failed = failed }) (Err Read)) here.shown
            (λ out p.
            let same : out ++ waiting ≡ out = rw w (append-nil out) in
            let all = subst (λ (o : List ℕ). Printed limits answers start.place here.lines o now.place) same p in (
              why st.read st.counts,
              st.text,
              st.within,
              here.front,
              (here.ends, here.tail, here.whole, here.unended),
              rw (lines_whole limits answers refuses here.front here.lines here.cuts)
                  (subst (λ (o : List ℕ). Printed limits answers start.place (here.lines ++ [] ∷ []) o now.place) (append-nil out) (printed_next limits answers start.place here.lines [] out [] now.place now.place all (refl, refl))),
            )),
      )

  -- the lines of the whole text, where its last line has no LF
  lines_ended : (start : Start S X) (read text : List ℕ) (now : Standing S X) → read ≡ text → (st : Stands limits answers start text now) → lines_of read ≡ st.lines ++ (st.tail ++ []) ∷ []
  lines_ended start read text now e st =
      ap lines_of (e ∙ st.whole) ∙ st.cuts st.tail ∙ rw (append-nil st.tail) (ap (λ (ls : List (List ℕ)). st.lines ++ ls) (lines_of-tail st.tail st.unended))

  -- the text ends
  pub ends_whole : (result : Result (Unit {0}) ScriptFault) (start : Start S X) (before left left' : Option (List ℕ)) (taken : ℕ) (now next : Standing S X) (reader_failed failed : Bool)
      → Stage limits answers start before left taken now → taken ≤ limits.text → Consumes left left' [] → IsAtEnd left'
      → OnOk result (Adds limits answers now [] next) → OnOk result (next.run.waiting.items ≡ [])
      → IfErr result (StopsAdding limits answers refuses now [] (record { context = next.place.context; holds = next.holds; failed = failed }))
      → Answered start before left' reader_failed next.place next.holds failed result
  ends_whole (Ok u) start before left left' taken now next reader_failed failed st le eats end adds none stops =
      let here = st.stands in
      let same : st.read ≡ st.text = all_within limits.text st.read st.text st.within (omega (arith, st.counts)) in
      let lines : lines_of st.read ≡ here.lines ++ (here.tail ++ []) ∷ [] = lines_ended start st.read st.text now same here in
      let consumed : Consumes before left' st.read = subst (λ (bytes : List ℕ). Consumes before left' bytes) (append-nil st.read) (Consumes-trans before left left' st.read [] st.consumed eats) in (
        st.read,
        consumed,
        wrote_so start.holds next.holds (λ out. Printed limits answers start.place (here.lines ++ (here.tail ++ []) ∷ []) (out ++ next.run.waiting.items) next.place)
            (Outcome limits answers refuses start.place next.place (record { read = st.read; left = left'; reader_failed = reader_failed; writer_failed = failed }) (Ok u))
            (adds start here.lines here.tail here.shown here.keeps)
            (λ out p.
            let all : out ++ next.run.waiting.items ≡ out = rw none (append-nil out) in
            (omega (arith, st.counts), end, rw lines (subst (λ (o : List ℕ). Printed limits answers start.place (here.lines ++ (here.tail ++ []) ∷ []) o next.place) all p))),
      )
  ends_whole (Err fault) start before left left' taken now next reader_failed failed st le eats end adds none stops =
      let here = st.stands in
      let same : st.read ≡ st.text = all_within limits.text st.read st.text st.within (omega (arith, st.counts)) in
      let lines : lines_of st.read ≡ here.lines ++ (here.tail ++ []) ∷ [] = lines_ended start st.read st.text now same here in
      let consumed : Consumes before left' st.read = subst (λ (bytes : List ℕ). Consumes before left' bytes) (append-nil st.read) (Consumes-trans before left left' st.read [] st.consumed eats) in
      let streams : Streams = record { read = st.read; left = left'; reader_failed = reader_failed; writer_failed = failed } in (
        st.read,
        consumed,
        wrote_so start.holds next.holds (StopsIn limits answers refuses start.place (here.lines ++ (here.tail ++ []) ∷ []) next.place.context failed fault) (Outcome limits answers refuses start.place next.place streams (Err fault))
            (stops start here.lines here.tail here.shown here.keeps here.counts)
            (λ out p. outcome_within fault start.place next.place streams st.read out (inr (refl, omega (arith, st.counts), end)) (rw lines p)),
      )
