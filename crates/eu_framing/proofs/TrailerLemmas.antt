-- Trailers and whole chunked bodies, in the buffer and in all bytes.
use Rattle.std.proofs.Common.{◌≡◌, ◌≢◌, ℕ, ◌+◌, ◌-◌, ◌≤◌, ◌⊎◌, inl, inr, ⊎_elim, true, false, nat_le, List, ◌++◌, length, take, drop, refl, sym, ap, ◌∙◌, subst, append_assoc, length-append, arith}
use Rattle.std.proofs.lemmas.List.{length-take, length-drop, length-map, take-append-drop, take-append-le, drop-drop}
use Rattle.std.proofs.lemmas.Bool.{cases_Bool, leb-true, leb-false}
use Rattle.httparse.specs.Grammar.{print_chunk_line, print_section, HasNoSection, NeverHasSection, MayBecomeSection}
use Rattle.httparse.specs.Spans.{SectionExceeds, IsSectionOf, header_bytes, name_and_value}
use Rattle.httparse.specs.declared.Error.{Error}
use Rattle.httparse.specs.declared.Error.TheVariants.{TooManyHeaders}
use Rattle.httparse.specs.declared.spans.HeaderSpan.{HeaderSpan}
use Rattle.eu_base.specs.declared.faults.Fault.{Fault}
use Rattle.eu_base.specs.declared.faults.Fault.TheVariants as faults
use Rattle.eu_framing.specs.Chunks.{max_raw, trailer_room, room_after, HasLine, HasTrailer, IsTrailerFault, ReadsChunked, BreaksChunked}
use Rattle.eu_framing.specs.Steps.{FindsLine}
use Rattle.eu_framing.specs.ChunkSteps.{FindsTrailer, TakesChunks, lines_in, long_trailer_fault}
use Rattle.eu_framing.proofs.BodyLemmas.{behind}
use Rattle.eu_framing.proofs.LineLemmas.{exceeds_lines, lines_exceed}
use Rattle.eu_framing.proofs.ChunkLemmas.{window_more, window_rest, line_at, took_more, took_leads, took_broken}

section_more : (w more : List ℕ) → NeverHasSection w → NeverHasSection (w ++ more)
section_more w more never tail = rw append_assoc (never (more ++ tail))

exceeds_more : (w more : List ℕ) → SectionExceeds 64 w → SectionExceeds 64 (w ++ more)
exceeds_more w more x = (x.0, x.1 ++ more, ap (λ (t : List ℕ). t ++ more) x.2 ∙ append_assoc x.0 x.1 more, x.3, x.4, x.5)

trailer_never : (room start : ℕ) (b more : List ℕ) → start ≤ length b → NeverHasSection (take (trailer_room room) (drop start b)) → IsTrailerFault room (drop start (b ++ more)) faults.BadChunk
trailer_never room start b more within x = inl (refl, inl (subst NeverHasSection (sym (window_more (trailer_room room) start b more within)) (section_more _ _ x)))

trailer_exceeds : (room start : ℕ) (b more : List ℕ) → start ≤ length b → SectionExceeds 64 (take (trailer_room room) (drop start b)) → IsTrailerFault room (drop start (b ++ more)) faults.BadChunk
trailer_exceeds room start b more within x = inl (refl, inr (subst (SectionExceeds 64) (sym (window_more (trailer_room room) start b more within)) (exceeds_more _ _ x)))

is_too_many : (e : Error) → (e ≡ TooManyHeaders) ⊎ (e ≢ TooManyHeaders)
is_too_many TooManyHeaders = inl refl
is_too_many e = inr (λ same. cc)

-- what the parser refuses at that place
pub trailer_refused : (room start : ℕ) (b more : List ℕ) (e : Error) → start ≤ length b → (e ≡ TooManyHeaders → SectionExceeds 64 (take (trailer_room room) (drop start b)))
    → (e ≢ TooManyHeaders → NeverHasSection (take (trailer_room room) (drop start b))) → IsTrailerFault room (drop start (b ++ more)) faults.BadChunk
trailer_refused room start b more e within many never = ⊎_elim
    (λ (is : e ≡ TooManyHeaders). trailer_exceeds room start b more within (many is))
    (λ (not : e ≢ TooManyHeaders). trailer_never room start b more within (never not))
    (is_too_many e)

-- what the room or its own limit ends inside
pub trailer_long : (room start : ℕ) (b more : List ℕ) (fault : Fault) → start + trailer_room room ≤ length b → fault ≡ long_trailer_fault room (take (trailer_room room) (drop start b))
    → HasNoSection (take (trailer_room room) (drop start b)) → MayBecomeSection (take (trailer_room room) (drop start b)) → IsTrailerFault room (drop start (b ++ more)) fault
trailer_long room start b more fault full is none may =
    let n = trailer_room room in
    let w = take n (drop start b) in
    let within : start ≤ length b = omega arith in
    let window : take n (drop start (b ++ more)) ≡ w = ap (take n) (behind start b more within) ∙ take-append-le n (drop start b) more (omega (arith, length-drop start b)) in
    ⊎_elim
    (λ (q : nat_le (lines_in w) 64 ≡ true).
    let few : ¬ (SectionExceeds 64 w) = λ x. omega (arith, exceeds_lines 64 w x, leb-true (lines_in w) 64 q) in
    inr (inr (rw q at is, omega (arith, length-drop start (b ++ more), length-append b more), rw window none, rw window may, rw window few)))
    (λ (q : nat_le (lines_in w) 64 ≡ false).
    let bad : fault ≡ faults.BadChunk = rw q at is in
    rw bad (trailer_exceeds room start b more within (lines_exceed 64 w none may (leb-false (lines_in w) 64 q))))
    (cases_Bool (nat_le (lines_in w) 64))

pub trailer_found : (room : ℕ) (text : List ℕ) (spans : List HeaderSpan) (found : ℕ × ℕ) → length spans ≡ 64 → IsSectionOf (take (trailer_room room) text) 0 spans found → FindsTrailer room text found.0
trailer_found room text spans found many x =
    let at = x.2 in
    let w = take (trailer_room room) text in
    let inside : found.0 ≤ length w = omega (arith, ap length at.reads.1, length-append (print_section x.0 x.1) (drop found.0 w), at.len_is) in
    let rest : drop found.0 w ++ drop (trailer_room room) text ≡ drop found.0 text = window_rest found.0 (trailer_room room) text inside in
    record {
      fields = x.0;
      last = x.1;
      reads = (at.reads.0, sym (take-append-drop (trailer_room room) text) ∙ ap (λ (t : List ℕ). t ++ drop (trailer_room room) text) at.reads.1 ∙ append_assoc (print_section x.0 x.1) (drop found.0 w) (drop (trailer_room room) text) ∙ ap (λ (t : List ℕ). print_section x.0 x.1 ++ t) rest);
      size = omega (arith, at.len_is);
      fits = omega (arith, inside, length-take (trailer_room room) text);
      few = omega (arith, many, ap length at.fields_are, length-map (take found.1 spans) (header_bytes w), length-map x.0 name_and_value, length-take found.1 spans);
    }

-- the trailer stands in all bytes
trailer_at : (room start len : ℕ) (b more : List ℕ) → start ≤ length b → FindsTrailer room (drop start b) len → HasTrailer room (drop start (b ++ more)) (drop (start + len) b ++ more)
trailer_at room start len b more within x =
    let print = print_section x.fields x.last in
    record {
      fields = x.fields;
      last = x.last;
      reads = (x.reads.0, behind start b more within ∙ ap (λ (t : List ℕ). t ++ more) x.reads.1 ∙ append_assoc print (drop len (drop start b)) more ∙ ap (λ (t : List ℕ). print ++ (t ++ more)) (drop-drop len start b));
      fits = omega (arith, x.size, x.fits);
      few = x.few;
    }

-- a chunk line stands in a longer buffer
pub finds_line_more : (room at : ℕ) (b b' more : List ℕ) (found : ℕ × ℕ) → at ≤ length b → b' ≡ b ++ more → FindsLine room (drop at b) found → FindsLine room (drop at b') found
finds_line_more room at b b' more found within e x =
    let line = line_at room at b more found within x in
    rw e (x.0, subst (HasLine room (drop at (b ++ more)) x.0) (sym (drop-drop found.0 at (b ++ more))) line, x.2, x.3)

pub chunked_broken : (start at len : ℕ) (b body more : List ℕ) (fault : Fault) → TakesChunks start at len b body → IsTrailerFault (max_raw - (at + len - start)) (drop (at + len) (b ++ more)) fault → BreaksChunked (drop start (b ++ more)) fault
chunked_broken start at len b body more fault t bad =
    let x = t.2 in
    let room : max_raw - (at + len - start) ≡ max_raw - (at - start) - length (print_chunk_line x.0) = omega (arith, x.2, t.5) in
    took_broken start at b more body t.0 fault t.1
    (inr (
      x.0,
      drop (at + len) (b ++ more),
      line_at (max_raw - (at - start)) at b more (len, 0) t.1.inside x,
      inr (inr (sym x.3, subst (λ (r : ℕ). IsTrailerFault r (drop (at + len) (b ++ more)) fault) room bad)),
    ))

pub chunked_whole : (start at len trailer : ℕ) (b b' grown body more : List ℕ) → TakesChunks start at len b body → b' ≡ b ++ grown → FindsTrailer (max_raw - (at + len - start)) (drop (at + len) b') trailer → ReadsChunked (drop start (b' ++ more)) body (drop (at + len + trailer) b' ++ more)
chunked_whole start at len trailer b b' grown body more t e x =
    let took = took_more start at b b' grown body t.0 e t.1 in
    let l = finds_line_more (max_raw - (at - start)) at b b' grown (len, 0) t.1.inside e t.2 in
    let line = line_at (max_raw - (at - start)) at b' more (len, 0) took.inside l in
    let within : at + len ≤ length b' = omega (arith, t.4, ap length e, length-append b grown) in
    let room : max_raw - (at - start) ≡ room_after t.0 = omega (arith, took.size) in
    let left : max_raw - (at + len - start) ≡ room_after t.0 - length (print_chunk_line l.0) = omega (arith, l.2, took.size) in (
      t.0,
      drop at (b' ++ more),
      took_leads start at b' more body t.0 took,
      took.bytes,
      (
        l.0,
        drop (at + len) (b' ++ more),
        subst (λ (r : ℕ). HasLine r (drop at (b' ++ more)) l.0 (drop (at + len) (b' ++ more))) room line,
        sym l.3,
        subst (λ (r : ℕ). HasTrailer r (drop (at + len) (b' ++ more)) (drop (at + len + trailer) b' ++ more)) left (trailer_at (max_raw - (at + len - start)) (at + len) trailer b' more within x),
      ),
    )
