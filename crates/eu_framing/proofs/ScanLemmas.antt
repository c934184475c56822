-- A look through a text that grows finds the empty line that ends it.
use Rattle.std.proofs.Common.{◌≡◌, ℕ, suc, ◌+◌, ◌-◌, ◌<◌, ◌≤◌, inl, inr, ⊎_elim, Bool, true, false, ◌||◌, eqb, List, [], ◌∷◌, ◌++◌, length, take, drop, flat_map, refl, sym, ap, ◌∙◌, subst, append_assoc, append-nil, length-append, arith, get_or}
use Rattle.std.proofs.Math.Bool.{or-true}
use Rattle.std.proofs.Math.Seq.{take-suc, drop-cons, take-append_seam}
use Rattle.std.proofs.lemmas.Bool.{cases_Bool, cases_lt, eqb-true, false≢true}
use Rattle.std.proofs.lemmas.List.{take_all, drop-drop, take-append-drop, take-append-le, drop-append-le}
use Rattle.std.specs.List.{list_any}
use Rattle.std.proofs.lemmas.List.Folds.{list_any-append}
use Rattle.std.proofs.lemmas.List.Elements.{All-head}
use Rattle.httparse.specs.Grammar.{is_token_byte, IsToken, LineEnd, crlf, lf, print_blank, print_end, print_version, Field, print_field, print_section, RequestHead, IsRequestHead, print_request, HasNoRequest, HasNoSection, ChunkLine, print_extension, print_chunk_line, ReadsChunkLine, HasNoChunkLine}
use Rattle.httparse.proofs.GrammarLemmas.{print_request-append}
use Rattle.eu_base.specs.declared.faults.Fault.TheVariants as faults
use Rattle.eu_framing.specs.declared.scan.Scan.{Scan}
use Rattle.eu_framing.specs.Chunks.{trailer_room, IsTrailerFault, IsLineFault}
use Rattle.eu_framing.specs.Message.{max_head, IsHeadFault}
use Rattle.eu_framing.specs.Reading.{IsCutBy}
use Rattle.eu_framing.specs.Steps.{blank_lines}
use Rattle.eu_framing.specs.Scanning.{line_after, begun_after, line_of, begun_of, is_end, has_end, IsAt, HeadEndsAfter, TrailerEndsAfter, LineEndsAfter}
use Rattle.eu_framing.proofs.HeadLemmas.{blank_found, head_cut}
use Rattle.eu_framing.proofs.HeadLawLemmas.{cut_end, end_cut, front_in_window, front_of_window}

line_append : (in_line : Bool) (xs ys : List ℕ) → line_of in_line (xs ++ ys) ≡ line_of (line_of in_line xs) ys
line_append in_line [] ys = refl
line_append in_line (x ∷ xs) ys = line_append (line_after in_line x) xs ys

begun_append : (begun : Bool) (xs ys : List ℕ) → begun_of begun (xs ++ ys) ≡ begun_of (begun_of begun xs) ys
begun_append begun [] ys = refl
begun_append begun (x ∷ xs) ys = begun_append (begun_after begun x) xs ys

-- one byte more
pub at_next : (begun : Bool) (text : List ℕ) (scan scan' : Scan) (b : ℕ) → scan.seen < length text → b ≡ get_or text scan.seen 0 → scan'.seen ≡ scan.seen + 1
    → scan'.in_line ≡ line_after scan.in_line b → scan'.begun ≡ begun_after scan.begun b → IsAt begun text scan → IsAt begun text scan'
at_next begun text scan scan' b inside is seen line begun_is at =
    let next : scan'.seen ≡ suc scan.seen = omega (arith, seen) in
    let grows : take scan'.seen text ≡ take scan.seen text ++ b ∷ [] = ap (λ (n : ℕ). take n text) next ∙ take-suc text scan.seen 0 inside ∙ ap (λ (x : ℕ). take scan.seen text ++ x ∷ []) (sym is) in
    record {
      within = omega (arith, seen, inside);
      line = line ∙ ap (λ (l : Bool). line_after l b) at.line ∙ sym (line_append false (take scan.seen text) (b ∷ [])) ∙ ap (line_of false) (sym grows);
      begun_is = begun_is ∙ ap (λ (g : Bool). begun_after g b) at.begun_is ∙ sym (begun_append begun (take scan.seen text) (b ∷ [])) ∙ ap (begun_of begun) (sym grows);
    }

cut_next : (text : List ℕ) (n : ℕ) (b : ℕ) → n < length text → b ≡ get_or text n 0 → drop n text ≡ b ∷ drop (suc n) text
cut_next text n b inside is = drop-cons text n 0 inside ∙ ap (λ (x : ℕ). x ∷ drop (suc n) text) (sym is)

pub end_met : (text : List ℕ) (scan : Scan) (b : ℕ) → scan.seen < length text → b ≡ get_or text scan.seen 0 → is_end scan.in_line scan.begun b ≡ true
    → true ≡ has_end scan.in_line scan.begun (drop scan.seen text)
end_met text scan b inside is ends =
    sym (ap (has_end scan.in_line scan.begun) (cut_next text scan.seen b inside is)
    ∙ ap (λ (q : Bool). q || has_end (line_after scan.in_line b) (begun_after scan.begun b) (drop (suc scan.seen) text)) ends)

pub end_next : (text : List ℕ) (scan scan' : Scan) (b : ℕ) → scan.seen < length text → b ≡ get_or text scan.seen 0 → scan'.seen ≡ scan.seen + 1
    → scan'.in_line ≡ line_after scan.in_line b → scan'.begun ≡ begun_after scan.begun b → is_end scan.in_line scan.begun b ≡ false
    → has_end scan.in_line scan.begun (drop scan.seen text) ≡ has_end scan'.in_line scan'.begun (drop scan'.seen text)
end_next text scan scan' b inside is seen line begun_is none =
    let next : scan'.seen ≡ suc scan.seen = omega (arith, seen) in
    let cut : drop scan.seen text ≡ b ∷ drop scan'.seen text = cut_next text scan.seen b inside is ∙ ap (λ (n : ℕ). b ∷ drop n text) (sym next) in
    ap (has_end scan.in_line scan.begun) cut
    ∙ ap (λ (q : Bool). q || has_end (line_after scan.in_line b) (begun_after scan.begun b) (drop scan'.seen text)) none
    ∙ ap (λ (l : Bool). has_end l (begun_after scan.begun b) (drop scan'.seen text)) (sym line)
    ∙ ap (λ (g : Bool). has_end scan'.in_line g (drop scan'.seen text)) (sym begun_is)

-- An empty line behind what was looked through is met.

ends_behind : (in_line begun : Bool) (xs ys : List ℕ) → line_of in_line xs ≡ false → begun_of begun xs ≡ true → has_end in_line begun (xs ++ 10 ∷ ys) ≡ true
ends_behind in_line begun [] ys line begins = rw line (rw begins refl)
ends_behind in_line begun (x ∷ xs) ys line begins =
    ap (λ (q : Bool). is_end in_line begun x || q) (ends_behind (line_after in_line x) (begun_after begun x) xs ys line begins) ∙ or-true (is_end in_line begun x)

-- the text is a front, whose last line is empty, and the LF of that, and then the rest
pub record EndsEmpty (begun : Bool) (text front rest : List ℕ) : Type 0 where
  pub whole : text ≡ front ++ 10 ∷ rest
  pub line : line_of false front ≡ false
  pub begins : begun_of begun front ≡ true

pub met : (begun : Bool) (text front rest : List ℕ) (scan : Scan) → IsAt begun text scan → EndsEmpty begun text front rest → scan.seen ≤ length front → has_end scan.in_line scan.begun (drop scan.seen text) ≡ true
met begun text front rest scan at ends before =
    let n = scan.seen in
    let taken : take n text ≡ take n front = ap (take n) ends.whole ∙ take-append-le n front (10 ∷ rest) before in
    let left : drop n text ≡ drop n front ++ 10 ∷ rest = ap (drop n) ends.whole ∙ drop-append-le n front (10 ∷ rest) before in
    let line : line_of scan.in_line (drop n front) ≡ false =
    ap (λ (l : Bool). line_of l (drop n front)) (at.line ∙ ap (line_of false) taken) ∙ sym (line_append false (take n front) (drop n front)) ∙ ap (line_of false) (take-append-drop n front) ∙ ends.line in
    let begins : begun_of scan.begun (drop n front) ≡ true =
    ap (λ (g : Bool). begun_of g (drop n front)) (at.begun_is ∙ ap (begun_of begun) taken) ∙ sym (begun_append begun (take n front) (drop n front)) ∙ ap (begun_of begun) (take-append-drop n front) ∙ ends.begins in
    ap (has_end scan.in_line scan.begun) left ∙ ends_behind scan.in_line scan.begun (drop n front) rest line begins

-- Heads and trailers end with an empty line.

line_ended : (in_line : Bool) (xs : List ℕ) (last : LineEnd) → line_of in_line (xs ++ print_end last) ≡ false
line_ended in_line xs lf = line_append in_line xs (10 ∷ [])
line_ended in_line xs crlf = line_append in_line xs (13 ∷ 10 ∷ [])

cut_stays : (in_line : Bool) (xs : List ℕ) (last : LineEnd) → line_of in_line xs ≡ false → line_of in_line (xs ++ cut_end last) ≡ false
cut_stays in_line xs lf e = ap (line_of in_line) (append-nil xs) ∙ e
cut_stays in_line xs crlf e = line_append in_line xs (13 ∷ []) ∙ e

field_ended : (f : Field) → line_of false (print_field f) ≡ false
field_ended f = line_ended false (f.name ++ 58 ∷ f.raw) f.end

fields_ended : (fs : List Field) → line_of false (flat_map print_field fs) ≡ false
fields_ended [] = refl
fields_ended (f ∷ fs) = line_append false (print_field f) (flat_map print_field fs) ∙ ap (λ (l : Bool). line_of l (flat_map print_field fs)) (field_ended f) ∙ fields_ended fs

stays_begun : (b : ℕ) → begun_after true b ≡ true
stays_begun b = ⊎_elim
    (λ (q : eqb b 10 ≡ true). rw q refl)
    (λ (q : eqb b 10 ≡ false). rw q (⊎_elim (λ (r : eqb b 13 ≡ true). rw r refl) (λ (r : eqb b 13 ≡ false). rw r refl) (cases_Bool (eqb b 13))))
    (cases_Bool (eqb b 10))

all_begun : (xs : List ℕ) → begun_of true xs ≡ true
all_begun [] = refl
all_begun (x ∷ xs) = ap (λ (g : Bool). begun_of g xs) (stays_begun x) ∙ all_begun xs

token_differs : (b k : ℕ) → is_token_byte k ≡ false → is_token_byte b ≡ true → eqb b k ≡ false
token_differs b k other token = ⊎_elim
    (λ (q : eqb b k ≡ true). absurd (false≢true (sym other ∙ ap is_token_byte (sym (eqb-true b k q)) ∙ token)))
    (λ (q : eqb b k ≡ false). q)
    (cases_Bool (eqb b k))

token_begins : (begun : Bool) (b : ℕ) → is_token_byte b ≡ true → begun_after begun b ≡ true
unfolding is_token_byte
token_begins begun b token = rw (token_differs b 10 refl token) (rw (token_differs b 13 refl token) refl)

word_begins : (begun : Bool) (word more : List ℕ) → IsToken word → begun_of begun (word ++ more) ≡ true
word_begins begun [] more is = absurd (omega (arith, is.0))
word_begins begun (b ∷ bs) more is = ap (λ (g : Bool). begun_of g (bs ++ more)) (token_begins begun b (All-head (λ (x : ℕ). is_token_byte x ≡ true) b bs is.1)) ∙ all_begun (bs ++ more)

pub section_ends : (text : List ℕ) (fields : List Field) (last : LineEnd) (rest : List ℕ) → text ≡ print_section fields last ++ rest → EndsEmpty true text (flat_map print_field fields ++ cut_end last) rest
section_ends text fields last rest e =
    let front = flat_map print_field fields in
    record {
      whole = e ∙ append_assoc front (print_end last) rest ∙ ap (λ (t : List ℕ). front ++ (t ++ rest)) (end_cut last) ∙ ap (λ (t : List ℕ). front ++ t) (append_assoc (cut_end last) (10 ∷ []) rest) ∙ sym (append_assoc front (cut_end last) (10 ∷ rest));
      line = cut_stays false front last (fields_ended fields);
      begins = all_begun (front ++ cut_end last);
    }

-- a head without its last LF
abbrev pub front_of : RequestHead → List ℕ
front_of h = ((((print_blank h.blank ++ (h.method ++ 32 ∷ (h.target ++ 32 ∷ print_version h.minor))) ++ print_end h.line_end) ++ flat_map print_field h.fields) ++ cut_end h.last)

cons_append : (x : ℕ) (xs ys : List ℕ) → (x ∷ xs) ++ ys ≡ x ∷ (xs ++ ys)
cons_append x xs ys = refl

regroup : (a b c d e f g r : List ℕ) → a ++ (b ++ 32 ∷ (c ++ 32 ∷ (d ++ (e ++ ((f ++ (g ++ 10 ∷ [])) ++ r))))) ≡ ((((a ++ (b ++ 32 ∷ (c ++ 32 ∷ d))) ++ e) ++ f) ++ g) ++ 10 ∷ r
regroup a b c d e f g r = simp (append_assoc, cons_append)

regroup_front : (a b c e f g : List ℕ) → ((((a ++ (b ++ c)) ++ e) ++ f) ++ g) ≡ a ++ (b ++ (c ++ (e ++ (f ++ g))))
regroup_front a b c e f g = simp append_assoc

pub head_ends : (text : List ℕ) (h : RequestHead) (rest : List ℕ) → IsRequestHead h → text ≡ print_request h ++ rest → EndsEmpty false text (front_of h) rest
head_ends text h rest is e =
    let blank = print_blank h.blank in
    let target = 32 ∷ (h.target ++ 32 ∷ print_version h.minor) in
    let fields = flat_map print_field h.fields in
    let started = (blank ++ (h.method ++ target)) ++ print_end h.line_end in
    record {
      whole = e ∙ print_request-append h rest
          ∙ ap (λ (t : List ℕ). blank ++ (h.method ++ 32 ∷ (h.target ++ 32 ∷ (print_version h.minor ++ (print_end h.line_end ++ ((fields ++ t) ++ rest)))))) (end_cut h.last)
          ∙ regroup blank h.method h.target (print_version h.minor) (print_end h.line_end) fields (cut_end h.last) rest;
      line = cut_stays false (started ++ fields) h.last
          (line_append false started fields ∙ ap (λ (l : Bool). line_of l fields) (line_ended false (blank ++ (h.method ++ target)) h.line_end) ∙ fields_ended h.fields);
      begins = ap (begun_of false) (regroup_front blank h.method target (print_end h.line_end) fields (cut_end h.last))
          ∙ begun_append false blank (h.method ++ (target ++ (print_end h.line_end ++ (fields ++ cut_end h.last))))
          ∙ word_begins (begun_of false blank) h.method (target ++ (print_end h.line_end ++ (fields ++ cut_end h.last))) is.method;
    }

-- A look that meets no end leaves no head.

pub at_start : (begun : Bool) (text : List ℕ) (scan : Scan) → scan ≡ record { seen = 0; in_line = false; begun = begun } → IsAt begun text scan
at_start begun text scan e = rw e (record { within = omega arith; line = refl; begun_is = refl })

pub at_more : (begun : Bool) (b b' more : List ℕ) (scan : Scan) → b' ≡ b ++ more → IsAt begun b scan → IsAt begun b' scan
at_more begun b b' more scan e at =
    let same : take scan.seen b ≡ take scan.seen b' = sym (take-append-le scan.seen b more at.within) ∙ ap (take scan.seen) (sym e) in
    record {
      within = omega (arith, at.within, ap length e, length-append b more);
      line = at.line ∙ ap (line_of false) same;
      begun_is = at.begun_is ∙ ap (begun_of begun) same;
    }

-- what stands at the front of a text that is known further on
front_back : (b more front rest : List ℕ) → b ++ more ≡ front ++ rest → length front ≤ length b → b ≡ front ++ take (length b - length front) rest
front_back b more front rest e long = sym (take-append_seam b more) ∙ front_in_window (length b) (b ++ more) front rest e long

pub head_none : (text : List ℕ) (scan : Scan) → IsAt false text scan → HeadEndsAfter scan.seen text → has_end scan.in_line scan.begun (drop scan.seen text) ≡ false → HasNoRequest text
head_none text scan at after none h rest reads =
    let ends = head_ends text h rest reads.0 reads.1 in
    let before : scan.seen ≤ length (front_of h) = omega (arith, after h rest reads, ap length (sym reads.1 ∙ ends.whole), length-append (print_request h) rest, length-append (front_of h) (10 ∷ rest)) in
    false≢true (sym none ∙ met false text (front_of h) rest scan at ends before)

pub head_in_window : (n : ℕ) (text : List ℕ) → HasNoRequest text → HasNoRequest (take n text)
head_in_window n text none h rest reads = none h (rest ++ drop n text) (reads.0, front_of_window n text (print_request h) rest reads.1)

pub head_more : (b b' more : List ℕ) (n : ℕ) → b' ≡ b ++ more → HasNoRequest b → n ≤ length b → HeadEndsAfter n b'
head_more b b' more n e none seen h rest reads =
    let print = print_request h in
    ⊎_elim
    (λ (far : length b < length print). omega (arith, far, seen))
    (λ (long : length print ≤ length b). absurd (none h (take (length b - length print) rest) (reads.0, front_back b more print rest (sym e ∙ reads.1) long)))
    (cases_lt (length b) (length print))

pub head_start : (text : List ℕ) (scan : Scan) (begun : Bool) → scan ≡ record { seen = 0; in_line = false; begun = begun } → HeadEndsAfter scan.seen text
head_start text scan begun e h rest reads =
    let ends = head_ends text h rest reads.0 reads.1 in
    omega (arith, ap (λ (s : Scan). s.seen) e, ap length (sym reads.1 ∙ ends.whole), length-append (print_request h) rest, length-append (front_of h) (10 ∷ rest))

-- as if the text ended there
pub head_stops : (b : List ℕ) → length b < max_head → HasNoRequest (take max_head b) → IsCutBy IsHeadFault b
head_stops b short none = ⊎_elim
    (λ (q : blank_lines false b ≡ true). inl (short, blank_found false b q))
    (λ (q : blank_lines false b ≡ false). inr (faults.BadHead, head_cut b short none q))
    (cases_Bool (blank_lines false b))

-- The same of trailers.

pub section_none : (text : List ℕ) (scan : Scan) → IsAt true text scan → TrailerEndsAfter scan.seen text → has_end scan.in_line scan.begun (drop scan.seen text) ≡ false → HasNoSection text
section_none text scan at after none fields last rest reads =
    let front = flat_map print_field fields ++ cut_end last in
    let ends = section_ends text fields last rest reads.1 in
    let before : scan.seen ≤ length front = omega (arith, after fields last rest reads, ap length (sym reads.1 ∙ ends.whole), length-append (print_section fields last) rest, length-append front (10 ∷ rest)) in
    false≢true (sym none ∙ met true text front rest scan at ends before)

pub section_in_window : (n : ℕ) (text : List ℕ) → HasNoSection text → HasNoSection (take n text)
section_in_window n text none fields last rest reads = none fields last (rest ++ drop n text) (reads.0, front_of_window n text (print_section fields last) rest reads.1)

pub section_more : (b b' more : List ℕ) (n : ℕ) → b' ≡ b ++ more → HasNoSection b → n ≤ length b → TrailerEndsAfter n b'
section_more b b' more n e none seen fields last rest reads =
    let print = print_section fields last in
    ⊎_elim
    (λ (far : length b < length print). omega (arith, far, seen))
    (λ (long : length print ≤ length b). absurd (none fields last (take (length b - length print) rest) (reads.0, front_back b more print rest (sym e ∙ reads.1) long)))
    (cases_lt (length b) (length print))

pub section_start : (text : List ℕ) (scan : Scan) (begun : Bool) → scan ≡ record { seen = 0; in_line = false; begun = begun } → TrailerEndsAfter scan.seen text
section_start text scan begun e fields last rest reads =
    let front = flat_map print_field fields ++ cut_end last in
    let ends = section_ends text fields last rest reads.1 in
    omega (arith, ap (λ (s : Scan). s.seen) e, ap length (sym reads.1 ∙ ends.whole), length-append (print_section fields last) rest, length-append front (10 ∷ rest))

pub section_stops : (room : ℕ) (text : List ℕ) → length text < trailer_room room → HasNoSection (take (trailer_room room) text) → IsTrailerFault room text faults.BadChunk
section_stops room text short none = inr (inl (refl, short, rw (take_all (trailer_room room) text (omega (arith, short))) at none))

-- And of chunk lines, which end with LF.

-- a chunk line without its LF
abbrev front_of_line : ChunkLine → List ℕ
front_of_line l = ((l.digits ++ l.pad) ++ print_extension l.extension) ++ 13 ∷ []

line_cut : (l : ChunkLine) → print_chunk_line l ≡ front_of_line l ++ 10 ∷ []
unfolding print_chunk_line
line_cut l = sym (append_assoc ((l.digits ++ l.pad) ++ print_extension l.extension) (13 ∷ []) (10 ∷ []))

-- it has an LF behind whatever of it was seen
pub line_has_end : (text : List ℕ) (n : ℕ) (l : ChunkLine) (rest : List ℕ) → LineEndsAfter n text → ReadsChunkLine text l rest → (before : List ℕ) × (drop n text ≡ before ++ 10 ∷ rest)
line_has_end text n l rest after reads =
    let front = front_of_line l in
    let whole : text ≡ front ++ 10 ∷ rest = reads.1 ∙ ap (λ (t : List ℕ). t ++ rest) (line_cut l) ∙ append_assoc front (10 ∷ []) rest in
    let inside : n ≤ length front = omega (arith, after l rest reads, ap length (line_cut l), length-append front (10 ∷ [])) in
    (drop n front, ap (drop n) whole ∙ drop-append-le n front (10 ∷ rest) inside)

any_has : (before rest : List ℕ) → list_any (λ y. eqb y 10) (before ++ 10 ∷ rest) ≡ true
any_has before rest = list_any-append (λ y. eqb y 10) before (10 ∷ rest) ∙ or-true (list_any (λ y. eqb y 10) before)

pub line_none : (b : List ℕ) (start seen : ℕ) → start ≤ seen → LineEndsAfter (seen - start) (drop start b) → list_any (λ y. eqb y 10) (drop seen b) ≡ false → HasNoChunkLine (drop start b)
line_none b start seen from after none l rest reads =
    let has = line_has_end (drop start b) (seen - start) l rest after reads in
    let split : seen ≡ start + (seen - start) = omega (arith, from) in
    let cut : drop seen b ≡ drop (seen - start) (drop start b) = ap (λ (n : ℕ). drop n b) split ∙ sym (drop-drop (seen - start) start b) in
    false≢true (sym none ∙ ap (list_any (λ y. eqb y 10)) (cut ∙ has.1) ∙ any_has has.0 rest)

pub line_in_window : (n : ℕ) (text : List ℕ) → HasNoChunkLine text → HasNoChunkLine (take n text)
line_in_window n text none l rest reads = none l (rest ++ drop n text) (reads.0, front_of_window n text (print_chunk_line l) rest reads.1)

pub line_more : (b b' more : List ℕ) (n : ℕ) → b' ≡ b ++ more → HasNoChunkLine b → n ≤ length b → LineEndsAfter n b'
line_more b b' more n e none seen l rest reads =
    let print = print_chunk_line l in
    ⊎_elim
    (λ (far : length b < length print). omega (arith, far, seen))
    (λ (long : length print ≤ length b). absurd (none l (take (length b - length print) rest) (reads.0, front_back b more print rest (sym e ∙ reads.1) long)))
    (cases_lt (length b) (length print))

-- what was looked through stays so
pub line_stays : (b b' more : List ℕ) (n : ℕ) → b' ≡ b ++ more → LineEndsAfter n b → n ≤ length b → LineEndsAfter n b'
line_stays b b' more n e after seen l rest reads =
    let print = print_chunk_line l in
    ⊎_elim
    (λ (far : length b < length print). omega (arith, far, seen))
    (λ (long : length print ≤ length b). after l (take (length b - length print) rest) (reads.0, front_back b more print rest (sym e ∙ reads.1) long))
    (cases_lt (length b) (length print))

pub line_start : (text : List ℕ) (n : ℕ) → n ≡ 0 → LineEndsAfter n text
line_start text n e l rest reads = omega (arith, e, ap length (line_cut l), length-append (front_of_line l) (10 ∷ []))

pub line_stops : (room : ℕ) (text : List ℕ) → length text < room → HasNoChunkLine (take room text) → IsLineFault room text faults.BadChunk
line_stops room text short none = inr (inl (refl, short, rw (take_all room text (omega (arith, short))) at none))

-- a window that is the whole text
pub whole_window : (n : ℕ) (text : List ℕ) (P : List ℕ → Type 0) → length text < n → P (take n text) → P text
whole_window n text P short = subst P (take_all n text (omega (arith, short)))
