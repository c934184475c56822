-- Bytes begin with one chunked body at most, a whole one has no fault, and its faults exclude each other.
use Rattle.std.proofs.Common.{◌≡◌, ℕ, ◌+◌, ◌-◌, ◌<◌, ◌≤◌, ◌⊎◌, inl, inr, List, [], ◌∷◌, ◌++◌, length, take, drop, refl, sym, ap, ◌∙◌, subst, append_assoc, length-append, arith}
use Rattle.std.proofs.Math.Path.{subst₂}
use Rattle.std.proofs.Math.Seq.{drop-append_seam}
use Rattle.std.proofs.lemmas.List.{take-append-drop}
use Rattle.std.proofs.lemmas.List.Concat.{flat_map-append}
use Rattle.std.specs.List.{AllByRecursion}
use Rattle.httparse.specs.Ascii.{crlf_bytes}
use Rattle.httparse.specs.Grammar.{ChunkLine, print_chunk_line, chunk_size, ReadsChunkLine}
use Rattle.httparse.proofs.GrammarLemmas.{section_unique}
use Rattle.httparse.proofs.ChunkLemmas.{chunk_line_unique}
use Rattle.eu_base.specs.declared.faults.Fault.{Fault}
use Rattle.eu_base.specs.declared.faults.Fault.TheVariants as faults
use Rattle.eu_framing.specs.Fields.{max_body}
use Rattle.eu_framing.specs.Chunks.{Chunk, IsChunk, print_chunk, raw, content, Leads, room_after, HasLine, HasTrailer, EndsChunks, ReadsChunked, IsLineFault, IsDataFault, IsTrailerFault, BreaksChunks, BreaksChunked}
use Rattle.eu_framing.proofs.HeadLawLemmas.{front_in_window}
use Rattle.eu_framing.proofs.TrailerLawLemmas.{trailer_is_whole, one_trailer_fault}

-- Lines.

same_line : (room room' : ℕ) (text : List ℕ) (line line' : ChunkLine) (after after' : List ℕ) → HasLine room text line after → HasLine room' text line' after' → (line ≡ line') × (after ≡ after')
same_line room room' text line line' after after' has has' = chunk_line_unique text line line' after after' has.reads has'.reads

line_is_whole : (room : ℕ) (text : List ℕ) (line : ChunkLine) (after : List ℕ) (fault : Fault) → HasLine room text line after → ¬ (IsLineFault room text fault)
line_is_whole room text line after fault has (inl x) =
    x.1 (drop room text) line after (subst (λ (t : List ℕ). ReadsChunkLine t line after) (sym (take-append-drop room text)) has.reads)
line_is_whole room text line after fault has (inr (inl x)) = x.2 line after has.reads
line_is_whole room text line after fault has (inr (inr x)) =
    x.2 line (take (room - length (print_chunk_line line)) after) (has.reads.0, front_in_window room text (print_chunk_line line) after has.reads.1 has.fits)

one_line_fault : (room : ℕ) (text : List ℕ) (f g : Fault) → IsLineFault room text f → IsLineFault room text g → f ≡ g
one_line_fault room text f g (inl x) (inl y) = x.0 ∙ sym y.0
one_line_fault room text f g (inl x) (inr (inl y)) = x.0 ∙ sym y.0
one_line_fault room text f g (inl x) (inr (inr y)) = absurd (x.1 y.3.0 y.3.1 [] y.3.2)
one_line_fault room text f g (inr (inl x)) (inl y) = x.0 ∙ sym y.0
one_line_fault room text f g (inr (inl x)) (inr (inl y)) = x.0 ∙ sym y.0
one_line_fault room text f g (inr (inl x)) (inr (inr y)) = absurd (omega (arith, x.1, y.1))
one_line_fault room text f g (inr (inr x)) (inl y) = absurd (y.1 x.3.0 x.3.1 [] x.3.2)
one_line_fault room text f g (inr (inr x)) (inr (inl y)) = absurd (omega (arith, y.1, x.1))
one_line_fault room text f g (inr (inr x)) (inr (inr y)) = x.0 ∙ sym y.0

-- Data.

data_is_whole : (room size : ℕ) (data_ rest after : List ℕ) (fault : Fault) → size ≡ length data_ → after ≡ data_ ++ (crlf_bytes ++ rest) → size + 2 ≤ room → ¬ (IsDataFault room size after fault)
data_is_whole room size data_ rest after fault sized e fits (inl x) = omega (arith, x.1, sized, ap length e, length-append data_ (crlf_bytes ++ rest), length-append crlf_bytes rest)
data_is_whole room size data_ rest after fault sized e fits (inr (inl x)) = omega (arith, x.1)
data_is_whole room size data_ rest after fault sized e fits (inr (inr x)) =
    let behind : drop size after ≡ crlf_bytes ++ rest = rw (sized, e) (drop-append_seam data_ (crlf_bytes ++ rest)) in
    x.3 (ap (take 2) behind)

one_data_fault : (room size : ℕ) (after : List ℕ) (f g : Fault) → IsDataFault room size after f → IsDataFault room size after g → f ≡ g
one_data_fault room size after f g (inl x) (inl y) = x.0 ∙ sym y.0
one_data_fault room size after f g (inl x) (inr (inl y)) = absurd (omega (arith, x.1, y.2))
one_data_fault room size after f g (inl x) (inr (inr y)) = x.0 ∙ sym y.0
one_data_fault room size after f g (inr (inl x)) (inl y) = absurd (omega (arith, y.1, x.2))
one_data_fault room size after f g (inr (inl x)) (inr (inl y)) = x.0 ∙ sym y.0
one_data_fault room size after f g (inr (inl x)) (inr (inr y)) = absurd (omega (arith, x.1, y.1))
one_data_fault room size after f g (inr (inr x)) (inl y) = x.0 ∙ sym y.0
one_data_fault room size after f g (inr (inr x)) (inr (inl y)) = absurd (omega (arith, x.1, y.1))
one_data_fault room size after f g (inr (inr x)) (inr (inr y)) = x.0 ∙ sym y.0

-- Chunks.

-- fronts of one length are the same
pub same_front : (a b x y : List ℕ) → length a ≡ length b → a ++ x ≡ b ++ y → (a ≡ b) × (x ≡ y)
same_front [] [] x y len e = (refl, e)
same_front [] (c ∷ b) x y len e = absurd (omega arith)
same_front (c ∷ a) [] x y len e = absurd (omega arith)
same_front (c ∷ a) (d ∷ b) x y len e =
    let h : c ≡ d = cc in
    let t : a ++ x ≡ b ++ y = cc in
    let r = same_front a b x y (omega arith) t in (rw (h, r.0) refl, r.1)

-- a chunk begins with its line
chunk_line : (c : Chunk) (rest : List ℕ) → IsChunk c → ReadsChunkLine (print_chunk c ++ rest) c.line (c.data_ ++ (crlf_bytes ++ rest))
chunk_line c rest is = (is.line, append_assoc (print_chunk_line c.line) (c.data_ ++ crlf_bytes) rest ∙ ap (λ (t : List ℕ). print_chunk_line c.line ++ t) (append_assoc c.data_ crlf_bytes rest))

same_chunk : (c d : Chunk) (x y : List ℕ) → IsChunk c → IsChunk d → print_chunk c ++ x ≡ print_chunk d ++ y → (c ≡ d) × (x ≡ y)
same_chunk c d x y is js e =
    let same = chunk_line_unique (print_chunk d ++ y) c.line d.line (c.data_ ++ (crlf_bytes ++ x)) (d.data_ ++ (crlf_bytes ++ y))
    (subst (λ (t : List ℕ). ReadsChunkLine t c.line (c.data_ ++ (crlf_bytes ++ x))) e (chunk_line c x is)) (chunk_line d y js) in
    let data_ = same_front c.data_ d.data_ (crlf_bytes ++ x) (crlf_bytes ++ y) (sym is.sized ∙ ap chunk_size same.0 ∙ js.sized) same.1 in
    let rest = same_front crlf_bytes crlf_bytes x y refl data_.1 in
    (λ i. record { line = same.0 i; data_ = data_.0 i }, rest.1)

-- a whole chunk within the limits comes next
record GoesOn (room held : ℕ) (text : List ℕ) : Type 0 where
  chunk : Chunk
  rest : List ℕ
  is : IsChunk chunk
  begins : text ≡ print_chunk chunk ++ rest
  body : held + length chunk.data_ ≤ max_body
  fits : length (print_chunk chunk) ≤ room

print_length : (c : Chunk) → length (print_chunk c) ≡ length (print_chunk_line c.line) + length c.data_ + 2
print_length c = omega (arith, length-append (print_chunk_line c.line) (c.data_ ++ crlf_bytes), length-append c.data_ crlf_bytes)

next_line : (room held : ℕ) (text : List ℕ) (x : GoesOn room held text) → HasLine room text x.chunk.line (x.chunk.data_ ++ (crlf_bytes ++ x.rest))
next_line room held text x =
    let c = x.chunk in
    record {
      reads = subst (λ (t : List ℕ). ReadsChunkLine t c.line (c.data_ ++ (crlf_bytes ++ x.rest))) (sym x.begins) (chunk_line c x.rest x.is);
      fits = omega (arith, x.fits, print_length c);
    }

next_unbroken : (room held : ℕ) (text : List ℕ) (fault : Fault) → BreaksChunks room held text fault → ¬ (GoesOn room held text)
next_unbroken room held text fault (inl bad) x = line_is_whole room text x.chunk.line (x.chunk.data_ ++ (crlf_bytes ++ x.rest)) fault (next_line room held text x) bad
next_unbroken room held text fault (inr (line, after, has, bad)) x =
    let c = x.chunk in
    let same = same_line room room text line c.line after (c.data_ ++ (crlf_bytes ++ x.rest)) has (next_line room held text x) in
    let size : chunk_size line ≡ length c.data_ = ap chunk_size same.0 ∙ x.is.sized in
    let printed = ap (λ (l : ChunkLine). length (print_chunk_line l)) same.0 in
    elim bad [
      | inl large ↦ omega (arith, large.1, size, x.body)
      | inr (inl cut) ↦ data_is_whole (room - length (print_chunk_line line)) (chunk_size line) c.data_ x.rest after fault size same.1
          (omega (arith, size, printed, x.fits, print_length c)) cut.2
      | inr (inr last) ↦ omega (arith, last.0, size, x.is.some)
    ]

next_unended : (room held : ℕ) (text rest : List ℕ) → EndsChunks room text rest → ¬ (GoesOn room held text)
next_unended room held text rest (line, after, has, zero, trailer) x =
    let same = same_line room room text line x.chunk.line after (x.chunk.data_ ++ (crlf_bytes ++ x.rest)) has (next_line room held text x) in
    omega (arith, zero, ap chunk_size same.0, x.is.sized, x.is.some)

-- Lists of chunks.

-- the second list goes on behind the first
abbrev Further : List Chunk → List Chunk → List ℕ → List ℕ → Type 0
Further cs ds x y = (c : Chunk) × (more : List Chunk) × (ds ≡ cs ++ c ∷ more) × IsChunk c × (x ≡ print_chunk c ++ (raw more ++ y))

further_more : (c d : Chunk) (cs ds : List Chunk) (x y : List ℕ) → c ≡ d → Further cs ds x y → Further (c ∷ cs) (d ∷ ds) x y
further_more c d cs ds x y e f = (f.0, f.1, rw (e, f.2) refl, f.3, f.4)

compare_chunks : (cs ds : List Chunk) (x y : List ℕ) → AllByRecursion IsChunk cs → AllByRecursion IsChunk ds → raw cs ++ x ≡ raw ds ++ y
    → ((cs ≡ ds) × (x ≡ y)) ⊎ Further cs ds x y ⊎ Further ds cs y x
compare_chunks [] [] x y all every e = inl (refl, e)
compare_chunks [] (d ∷ ds) x y all every e = inr (inl (d, ds, refl, every.0, e ∙ append_assoc (print_chunk d) (raw ds) y))
compare_chunks (c ∷ cs) [] x y all every e = inr (inr (c, cs, refl, all.0, sym e ∙ append_assoc (print_chunk c) (raw cs) x))
compare_chunks (c ∷ cs) (d ∷ ds) x y all every e =
    let first = same_chunk c d (raw cs ++ x) (raw ds ++ y) all.0 every.0 (sym (append_assoc (print_chunk c) (raw cs) x) ∙ e ∙ append_assoc (print_chunk d) (raw ds) y) in
    elim (compare_chunks cs ds x y all.1 every.1 first.1) [
      | inl same ↦ inl (rw (first.0, same.0) refl, same.1)
      | inr (inl f) ↦ inr (inl (further_more c d cs ds x y first.0 f))
      | inr (inr f) ↦ inr (inr (further_more d c ds cs y x (sym first.0) f))
    ]

goes_on : (bytes : List ℕ) (cs ds : List Chunk) (x y : List ℕ) → Leads bytes ds y → Further cs ds x y → GoesOn (room_after cs) (length (content cs)) x
goes_on bytes cs ds x y lead (c, more, ds_is, is, begins) =
    let printed : raw ds ≡ raw cs ++ (print_chunk c ++ raw more) = ap raw ds_is ∙ flat_map-append print_chunk cs (c ∷ more) in
    let held : content ds ≡ content cs ++ (c.data_ ++ content more) = ap content ds_is ∙ flat_map-append (λ (d : Chunk). d.data_) cs (c ∷ more) in
    record {
      chunk = c;
      rest = raw more ++ y;
      is = is;
      begins = begins;
      body = omega (arith, lead.body, ap length held, length-append (content cs) (c.data_ ++ content more), length-append c.data_ (content more));
      fits = omega (arith, lead.short, ap length printed, length-append (raw cs) (print_chunk c ++ raw more), length-append (print_chunk c) (raw more));
    }

-- chunks that end at no further chunk are the same
same_chunks : (bytes : List ℕ) (cs ds : List Chunk) (x y : List ℕ) → Leads bytes cs x → Leads bytes ds y
    → ¬ (GoesOn (room_after cs) (length (content cs)) x) → ¬ (GoesOn (room_after ds) (length (content ds)) y) → (cs ≡ ds) × (x ≡ y)
same_chunks bytes cs ds x y lead lead' stops stops' =
    elim (compare_chunks cs ds x y lead.each lead'.each (sym lead.whole ∙ lead'.whole)) [
      | inl same ↦ same
      | inr (inl f) ↦ absurd (stops (goes_on bytes cs ds x y lead' f))
      | inr (inr f) ↦ absurd (stops' (goes_on bytes ds cs y x lead f))
    ]

-- Chunked bodies.

pub one_chunked : (bytes body body' rest rest' : List ℕ) → ReadsChunked bytes body rest → ReadsChunked bytes body' rest' → (body ≡ body') × (rest ≡ rest')
one_chunked bytes body body' rest rest' (cs, x, lead, content_is, ends) (ds, y, lead', content_is', ends') =
    let chunks = same_chunks bytes cs ds x y lead lead' (next_unended (room_after cs) (length (content cs)) x rest ends) (next_unended (room_after ds) (length (content ds)) y rest' ends') in
    let has = subst (λ (t : List ℕ). HasLine (room_after cs) t ends.0 ends.1) chunks.1 ends.2 in
    let lines = same_line (room_after cs) (room_after ds) y ends.0 ends'.0 ends.1 ends'.1 has ends'.2 in
    let last = section_unique ends'.1 ends.4.fields ends'.4.fields ends.4.last ends'.4.last rest rest' (rw lines.1 at ends.4.reads) ends'.4.reads in
    (content_is ∙ ap content chunks.0 ∙ sym content_is', last.2)

whole_unbroken : (room held : ℕ) (text rest : List ℕ) (fault : Fault) → held ≤ max_body → EndsChunks room text rest → ¬ (BreaksChunks room held text fault)
whole_unbroken room held text rest fault within (line, after, has, zero, trailer) (inl bad) = line_is_whole room text line after fault has bad
whole_unbroken room held text rest fault within (line, after, has, zero, trailer) (inr (line', after', has', bad)) =
    let same = same_line room room text line line' after after' has has' in
    let zero' : chunk_size line' ≡ 0 = sym (ap chunk_size same.0) ∙ zero in
    elim bad [
      | inl large ↦ omega (arith, large.1, zero')
      | inr (inl cut) ↦ omega (arith, cut.0, zero')
      | inr (inr last) ↦ trailer_is_whole (room - length (print_chunk_line line')) after' rest fault
          (subst₂ (λ (l : ChunkLine) (t : List ℕ). HasTrailer (room - length (print_chunk_line l)) t rest) same.0 same.1 trailer) last.1
    ]

pub chunked_is_whole : (bytes body rest : List ℕ) (fault : Fault) → ReadsChunked bytes body rest → ¬ (BreaksChunked bytes fault)
chunked_is_whole bytes body rest fault (cs, x, lead, content_is, ends) (ds, y, lead', bad) =
    let chunks = same_chunks bytes cs ds x y lead lead' (next_unended (room_after cs) (length (content cs)) x rest ends) (next_unbroken (room_after ds) (length (content ds)) y fault bad) in
    whole_unbroken (room_after ds) (length (content ds)) y rest fault lead'.body
    (subst₂ (λ (l : List Chunk) (t : List ℕ). EndsChunks (room_after l) t rest) chunks.0 chunks.1 ends) bad

-- what can be wrong behind a line
abbrev BreaksLine : ℕ → ℕ → ChunkLine → List ℕ → Fault → Type 0
BreaksLine room held line after fault =
    ((fault ≡ faults.BodyTooLong) × (max_body < held + chunk_size line))
    ⊎ ((0 < chunk_size line) × (held + chunk_size line ≤ max_body) × IsDataFault (room - length (print_chunk_line line)) (chunk_size line) after fault)
    ⊎ ((chunk_size line ≡ 0) × IsTrailerFault (room - length (print_chunk_line line)) after fault)

one_behind_line : (room held : ℕ) (line : ChunkLine) (after : List ℕ) (f g : Fault) → held ≤ max_body → BreaksLine room held line after f → BreaksLine room held line after g → f ≡ g
one_behind_line room held line after f g within (inl x) (inl y) = x.0 ∙ sym y.0
one_behind_line room held line after f g within (inl x) (inr (inl y)) = absurd (omega (arith, x.1, y.1))
one_behind_line room held line after f g within (inl x) (inr (inr y)) = absurd (omega (arith, x.1, y.0))
one_behind_line room held line after f g within (inr (inl x)) (inl y) = absurd (omega (arith, x.1, y.1))
one_behind_line room held line after f g within (inr (inl x)) (inr (inl y)) = one_data_fault (room - length (print_chunk_line line)) (chunk_size line) after f g x.2 y.2
one_behind_line room held line after f g within (inr (inl x)) (inr (inr y)) = absurd (omega (arith, x.0, y.0))
one_behind_line room held line after f g within (inr (inr x)) (inl y) = absurd (omega (arith, x.0, y.1))
one_behind_line room held line after f g within (inr (inr x)) (inr (inl y)) = absurd (omega (arith, x.0, y.0))
one_behind_line room held line after f g within (inr (inr x)) (inr (inr y)) = one_trailer_fault (room - length (print_chunk_line line)) after f g x.1 y.1

one_break : (room held : ℕ) (text : List ℕ) (f g : Fault) → held ≤ max_body → BreaksChunks room held text f → BreaksChunks room held text g → f ≡ g
one_break room held text f g within (inl x) (inl y) = one_line_fault room text f g x y
one_break room held text f g within (inl x) (inr (line, after, has, y)) = absurd (line_is_whole room text line after f has x)
one_break room held text f g within (inr (line, after, has, x)) (inl y) = absurd (line_is_whole room text line after g has y)
one_break room held text f g within (inr (line, after, has, x)) (inr (line', after', has', y)) =
    let same = same_line room room text line line' after after' has has' in
    one_behind_line room held line' after' f g within (subst₂ (λ (l : ChunkLine) (t : List ℕ). BreaksLine room held l t f) same.0 same.1 x) y

pub one_chunked_fault : (bytes : List ℕ) (f g : Fault) → BreaksChunked bytes f → BreaksChunked bytes g → f ≡ g
one_chunked_fault bytes f g (cs, x, lead, bad) (ds, y, lead', bad') =
    let chunks = same_chunks bytes cs ds x y lead lead' (next_unbroken (room_after cs) (length (content cs)) x f bad) (next_unbroken (room_after ds) (length (content ds)) y g bad') in
    let here = subst₂ (λ (l : List Chunk) (t : List ℕ). BreaksChunks (room_after l) (length (content l)) t f) chunks.0 chunks.1 bad in
    one_break (room_after ds) (length (content ds)) y f g lead'.body here bad'
