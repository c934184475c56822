-- Chunk lines, chunks and lists of chunks, in the buffer and in all bytes.
use Rattle.std.proofs.Common.{◌≡◌, ℕ, ◌+◌, ◌-◌, ◌<◌, ◌≤◌, inl, inr, ⊎_elim, true, false, min, get_or, List, [], ◌∷◌, ◌++◌, length, take, drop, Result, Ok, Err, IfOk, bytes_eq, refl, sym, ap, ◌∙◌, subst, append_assoc, append-nil, length-append, arith}
use Rattle.std.proofs.lemmas.List.{length-take, length-drop, take-append-drop, take-append-le, drop-append-le, drop-drop, drop_more}
use Rattle.std.proofs.lemmas.List.Concat.{flat_map-append}
use Rattle.std.proofs.lemmas.Bool.{false≢true, cases_lt}
use Rattle.std.proofs.lemmas.Slice.Eq.{bytes_eq-Decides}
use Rattle.std.specs.List.{AllByRecursion}
use Rattle.httparse.specs.Ascii.{crlf_bytes}
use Rattle.httparse.specs.Grammar.{ChunkLine, print_chunk_line, NeverHasChunkLine}
use Rattle.httparse.specs.Spans.{IsChunkLineAt}
use Rattle.httparse.proofs.ChunkLemmas.{ReadsChunkLine-append}
use Rattle.eu_base.specs.declared.faults.Fault.{Fault}
use Rattle.eu_base.specs.declared.faults.Fault.TheVariants as faults
use Rattle.eu_framing.specs.Fields.{max_body}
use Rattle.eu_framing.specs.Chunks.{Chunk, IsChunk, print_chunk, raw, content, Leads, room_after, HasLine, IsLineFault, IsDataFault, BreaksChunks, BreaksChunked, max_raw}
use Rattle.eu_framing.specs.Steps.{FindsLine, Took}
use Rattle.eu_framing.specs.ChunkSteps.{TakesChunk}
use Rattle.eu_framing.proofs.BodyLemmas.{behind, split_at}
use Rattle.eu_framing.proofs.HeadLemmas.{take_front}

-- a window that begins at a place, with more bytes
pub window_more : (room start : ℕ) (b more : List ℕ) → start ≤ length b → take room (drop start (b ++ more)) ≡ take room (drop start b) ++ take (room - length (drop start b)) more
window_more room start b more within = ap (take room) (behind start b more within) ∙ take_front room (drop start b) more

-- the rest of a window, and what is behind that
pub window_rest : (n m : ℕ) (xs : List ℕ) → n ≤ length (take m xs) → drop n (take m xs) ++ drop m xs ≡ drop n xs
window_rest n m xs within = sym (drop-append-le n (take m xs) (drop m xs) within) ∙ ap (drop n) (take-append-drop m xs)

-- The chunk line.

line_more : (w more : List ℕ) → NeverHasChunkLine w → NeverHasChunkLine (w ++ more)
line_more w more never tail = rw append_assoc (never (more ++ tail))

pub line_never : (room start : ℕ) (b more : List ℕ) → start ≤ length b → NeverHasChunkLine (take room (drop start b)) → IsLineFault room (drop start (b ++ more)) faults.BadChunk
line_never room start b more within x = inl (refl, subst NeverHasChunkLine (sym (window_more room start b more within)) (line_more _ _ x))

pub line_found : (room : ℕ) (text : List ℕ) (found : ℕ × ℕ) → ((l : ChunkLine) × IsChunkLineAt (take room text) found.0 found.1 l) → FindsLine room text found
line_found room text found (l, at) =
    let w = take room text in
    let inside : found.0 ≤ length w = omega (arith, ap length at.reads.1, length-append (print_chunk_line l) (drop found.0 w), at.len_is) in
    let reads = ReadsChunkLine-append w l (drop found.0 w) (drop room text) at.reads in (
      l,
      record {
        reads = rw (take-append-drop room text, window_rest found.0 room text inside) at reads;
        fits = omega (arith, at.len_is, length-take room text, inside);
      },
      at.len_is,
      at.size_is,
    )

pub line_inside : (room start : ℕ) (b : List ℕ) (found : ℕ × ℕ) → start ≤ length b → FindsLine room (drop start b) found → start + found.0 ≤ length b
line_inside room start b found within x =
    omega (arith, ap length x.1.reads.1, length-append (print_chunk_line x.0) (drop found.0 (drop start b)), x.2, length-drop start b)

pub line_so_inside : (room start n : ℕ) (b : List ℕ) (r : Result (ℕ × ℕ) Fault) → start ≤ length b → length b ≤ n → IfOk r (FindsLine room (drop start b)) → IfOk r (λ found. start + found.0 ≤ n)
line_so_inside room start n b (Ok found) within long x = omega (arith, line_inside room start b found within x, long)
line_so_inside room start n b (Err fault) within long x = tt

-- the line stands in all bytes
pub line_at : (room start : ℕ) (b more : List ℕ) (found : ℕ × ℕ) → start ≤ length b → (x : FindsLine room (drop start b) found) → HasLine room (drop start (b ++ more)) x.0 (drop (start + found.0) (b ++ more))
line_at room start b more found within x =
    let inside = line_inside room start b found within x in
    let reads = ReadsChunkLine-append (drop start b) x.0 (drop found.0 (drop start b)) more x.1.reads in
    let rest : drop found.0 (drop start b) ++ more ≡ drop (start + found.0) (b ++ more) = ap (λ (t : List ℕ). t ++ more) (drop-drop found.0 start b) ∙ sym (behind (start + found.0) b more inside) in
    record { reads = rw (← behind start b more within, rest) at reads; fits = x.1.fits }

-- The data.

pub data_long : (room size start : ℕ) (b more : List ℕ) → room < size + 2 → start + min room (size + 2) ≤ length b → IsDataFault room size (drop start (b ++ more)) faults.BodyTooLong
data_long room size start b more over long = inr (inl (refl, over, omega (arith, length-drop start (b ++ more), length-append b more)))

pub data_short : (room size start : ℕ) (b : List ℕ) → start ≤ length b → length b < start + min room (size + 2) → IsDataFault room size (drop start b) faults.BadChunk
data_short room size start b within short = inl (refl, omega (arith, length-drop start b))

pub data_open : (room size start : ℕ) (b more : List ℕ) → size + 2 ≤ room → start + size + 2 ≤ length b → bytes_eq (take 2 (drop (start + size) b)) crlf_bytes ≡ false → IsDataFault room size (drop start (b ++ more)) faults.BadChunk
data_open room size start b more fits long other =
    let at : drop size (drop start (b ++ more)) ≡ drop (start + size) b ++ more = drop-drop size start (b ++ more) ∙ behind (start + size) b more (omega arith) in
    let two : take 2 (drop size (drop start (b ++ more))) ≡ take 2 (drop (start + size) b) =
    ap (take 2) at ∙ take-append-le 2 (drop (start + size) b) more (omega (arith, length-drop (start + size) b)) in
    let decides = bytes_eq-Decides (take 2 (drop (start + size) b)) crlf_bytes in
    inr (inr (refl, fits, omega (arith, length-drop start (b ++ more), length-append b more), λ e. false≢true (sym other ∙ decides.1 (sym two ∙ e))))

-- the byte behind the data is no CR
pub data_wrong : (room size start d : ℕ) (b more : List ℕ) → size + 2 ≤ room → start + size + 1 ≤ length b → (get_or b (start + size) d ≡ 13 → ⊥) → IsDataFault room size (drop start (b ++ more)) faults.BadChunk
data_wrong room size start d b more fits long other =
    let text = drop start (b ++ more) in
    let at : drop size text ≡ drop (start + size) b ++ more = drop-drop size start (b ++ more) ∙ behind (start + size) b more (omega arith) in
    let front : drop (start + size) b ≡ get_or b (start + size) d ∷ drop (start + size + 1) b = drop_more b (start + size) d (omega arith) in
    let two : take 2 (drop size text) ≡ take 2 ((get_or b (start + size) d ∷ drop (start + size + 1) b) ++ more) = ap (take 2) (at ∙ ap (λ (t : List ℕ). t ++ more) front) in
    ⊎_elim
    (λ short. inl (refl, omega arith))
    (λ whole. inr (inr (refl, fits, whole, λ e. other (ap (λ (t : List ℕ). get_or t 0 d) (sym two ∙ e)))))
    (cases_lt (length text) (size + 2))

pub data_stands : (size start : ℕ) (b : List ℕ) → start + size + 2 ≤ length b → bytes_eq (take 2 (drop (start + size) b)) crlf_bytes ≡ true → drop start b ≡ take size (drop start b) ++ (crlf_bytes ++ drop (start + size + 2) b)
data_stands size start b long same =
    let two : take 2 (drop (start + size) b) ≡ crlf_bytes = (bytes_eq-Decides (take 2 (drop (start + size) b)) crlf_bytes).0 same in
    split_at start size b ∙ ap (λ (t : List ℕ). take size (drop start b) ++ t) (split_at (start + size) 2 b ∙ ap (λ (t : List ℕ). t ++ drop (start + size + 2) b) two)

-- One chunk.

pub chunk_large : (room held start : ℕ) (b more : List ℕ) (found : ℕ × ℕ) → start ≤ length b → FindsLine room (drop start b) found → max_body < held + found.1 → BreaksChunks room held (drop start (b ++ more)) faults.BodyTooLong
chunk_large room held start b more found within x over =
    inr (x.0, drop (start + found.0) (b ++ more), line_at room start b more found within x, inl (refl, omega (arith, x.3, over)))

pub chunk_broken : (room held start : ℕ) (b more : List ℕ) (found : ℕ × ℕ) (fault : Fault) → start ≤ length b → FindsLine room (drop start b) found → 0 < found.1 → held + found.1 ≤ max_body
    → IsDataFault (room - found.0) found.1 (drop (start + found.0) (b ++ more)) fault → BreaksChunks room held (drop start (b ++ more)) fault
chunk_broken room held start b more found fault within x some fits bad =
    let after = drop (start + found.0) (b ++ more) in
    let bad' = subst (λ (size : ℕ). IsDataFault (room - length (print_chunk_line x.0)) size after fault) x.3 (subst (λ (len : ℕ). IsDataFault (room - len) found.1 after fault) x.2 bad) in
    inr (x.0, after, line_at room start b more found within x, inr (inl (omega (arith, x.3), omega (arith, x.3), bad')))

pub chunk_taken : (room start : ℕ) (b b' more body body' : List ℕ) (len size : ℕ) → start ≤ length b → FindsLine room (drop start b) (len, size) → 0 < size → length body + size ≤ max_body → b' ≡ b ++ more
    → ((chunk : List ℕ) × (length chunk ≡ size) × (body' ≡ body ++ chunk) × (drop (start + len) b' ≡ chunk ++ (crlf_bytes ++ drop (start + len + size + 2) b')))
    → start + len + size + 2 ≤ length b' → size + 2 ≤ room - len → TakesChunk start room b' body body' (len + size + 2)
chunk_taken room start b b' more body body' len size within x some few e q long fits =
    let line = subst (λ (t : List ℕ). HasLine room (drop start t) x.0 (drop (start + len) t)) (sym e) (line_at room start b more (len, size) within x) in
    let places : start + len + size + 2 ≡ start + (len + size + 2) = omega arith in
    let whole = line.reads.1 ∙ ap (λ (t : List ℕ). print_chunk_line x.0 ++ t) (q.3 ∙ sym (append_assoc q.0 crlf_bytes (drop (start + len + size + 2) b'))) ∙ sym (append_assoc (print_chunk_line x.0) (q.0 ++ crlf_bytes) (drop (start + len + size + 2) b')) in
    record {
      chunk = record { line = x.0; data_ = q.0 };
      is = record { line = x.1.reads.0; sized = sym x.3 ∙ sym q.1; some = omega (arith, q.1, some) };
      stands = whole ∙ ap (λ (n : ℕ). (print_chunk_line x.0 ++ (q.0 ++ crlf_bytes)) ++ drop n b') places;
      len = omega (arith, x.2, q.1, length-append (print_chunk_line x.0) (q.0 ++ crlf_bytes), length-append q.0 crlf_bytes);
      bytes = q.2;
      few = omega (arith, ap length q.2, length-append body q.0, q.1, few);
      fits = omega (arith, fits);
      inside = omega (arith, long);
    }

-- Lists of chunks.

raw_push : (cs : List Chunk) (c : Chunk) → raw (cs ++ c ∷ []) ≡ raw cs ++ print_chunk c
raw_push cs c = flat_map-append print_chunk cs (c ∷ []) ∙ ap (λ (t : List ℕ). raw cs ++ t) (append-nil (print_chunk c))

content_push : (cs : List Chunk) (c : Chunk) → content (cs ++ c ∷ []) ≡ content cs ++ c.data_
content_push cs c = flat_map-append (λ (x : Chunk). x.data_) cs (c ∷ []) ∙ ap (λ (t : List ℕ). content cs ++ t) (append-nil c.data_)

all_push : (cs : List Chunk) (c : Chunk) → AllByRecursion IsChunk cs → IsChunk c → AllByRecursion IsChunk (cs ++ c ∷ [])
all_push [] c all is = (is, tt)
all_push (d ∷ cs) c all is = (all.0, all_push cs c all.1 is)

-- the chunks stand where they stood, with more bytes behind them
pub took_more : (start at : ℕ) (b b' more body : List ℕ) (cs : List Chunk) → b' ≡ b ++ more → Took start at b body cs → Took start at b' body cs
took_more start at b b' more body cs e t =
    let ordered : start ≤ length b = omega (arith, t.size, t.inside) in
    record {
      each = t.each;
      whole = rw e (behind start b more ordered ∙ ap (λ (x : List ℕ). x ++ more) t.whole ∙ append_assoc (raw cs) (drop at b) more ∙ ap (λ (x : List ℕ). raw cs ++ x) (sym (behind at b more t.inside)));
      bytes = t.bytes;
      few = t.few;
      size = t.size;
      short = t.short;
      inside = omega (arith, ap length e, length-append b more, t.inside);
    }

-- and one more
pub took_next : (start at : ℕ) (b b' more body body' : List ℕ) (cs : List Chunk) (n : ℕ) → b' ≡ b ++ more → Took start at b body cs → TakesChunk at (max_raw - (at - start)) b' body body' n → (ds : List Chunk) × Took start (at + n) b' body' ds
took_next start at b b' more body body' cs n e t c =
    let u = took_more start at b b' more body cs e t in
    let longer = ap length (raw_push cs c.chunk) in (
      cs ++ c.chunk ∷ [],
      record {
        each = all_push cs c.chunk t.each c.is;
        whole = u.whole ∙ ap (λ (x : List ℕ). raw cs ++ x) c.stands ∙ sym (append_assoc (raw cs) (print_chunk c.chunk) (drop (at + n) b')) ∙ ap (λ (x : List ℕ). x ++ drop (at + n) b') (sym (raw_push cs c.chunk));
        bytes = c.bytes ∙ ap (λ (x : List ℕ). x ++ c.chunk.data_) t.bytes ∙ sym (content_push cs c.chunk);
        few = c.few;
        size = omega (arith, longer, length-append (raw cs) (print_chunk c.chunk), t.size, c.len);
        short = omega (arith, longer, length-append (raw cs) (print_chunk c.chunk), t.size, t.short, c.len, c.fits);
        inside = c.inside;
      },
    )

-- the chunks lead all bytes
pub took_leads : (start at : ℕ) (b more body : List ℕ) (cs : List Chunk) → Took start at b body cs → Leads (drop start (b ++ more)) cs (drop at (b ++ more))
took_leads start at b more body cs t =
    let u = took_more start at b (b ++ more) more body cs refl t in
    record { each = t.each; whole = u.whole; body = omega (arith, ap length t.bytes, t.few); short = t.short }

pub took_broken : (start at : ℕ) (b more body : List ℕ) (cs : List Chunk) (fault : Fault) → Took start at b body cs → BreaksChunks (max_raw - (at - start)) (length body) (drop at (b ++ more)) fault → BreaksChunked (drop start (b ++ more)) fault
took_broken start at b more body cs fault t bad =
    let room : max_raw - (at - start) ≡ room_after cs = omega (arith, t.size) in
    (cs, drop at (b ++ more), took_leads start at b more body cs t, rw (room, t.bytes) at bad)
