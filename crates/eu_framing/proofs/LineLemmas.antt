-- The fields of bytes that may become a trailer are as many as their lines.
use Rattle.std.proofs.Common.{◌≡◌, ℕ, ◌+◌, ◌<◌, ◌≤◌, ◌⊎◌, inl, inr, ⊎_elim, Bool, true, false, cond, ◌==◌, List, [], ◌∷◌, ◌++◌, length, get_or, take, drop, flat_map, All, refl, sym, ap, ◌∙◌, append_assoc, append-nil, length-append, arith}
use Rattle.std.proofs.Math.Seq.{take-append_seam, drop-append_seam}
use Rattle.std.proofs.lemmas.Bool.{cases_Bool, cases_lt, eqb-true, false≢true}
use Rattle.std.proofs.lemmas.List.{take-append-drop, take-append-le, drop-append-le}
use Rattle.std.proofs.lemmas.List.Elements.{All-nil, All-cons, All-head, All-tail}
use Rattle.std.proofs.lemmas.List.Sums.{sum_by-append, sum_by-le, sum_by-take-le}
use Rattle.httparse.specs.Ascii.{line_feed}
use Rattle.httparse.specs.Grammar.{is_token_byte, is_value_byte, AllPass, LineEnd, crlf, lf, print_end, Field, IsField, print_field, print_section, HasNoSection, MayBecomeSection}
use Rattle.httparse.specs.Spans.{SectionExceeds}
use Rattle.eu_framing.specs.ChunkSteps.{lines_in}
use Rattle.eu_framing.proofs.HeadLawLemmas.{cut_end, end_cut, lines_of_section}

-- Counting.

-- whether a byte ends a line, as a number
abbrev one_line : ℕ → ℕ
one_line b = cond (b == line_feed) 1 0

lines-append : (a b : List ℕ) → lines_in (a ++ b) ≡ lines_in a + lines_in b
lines-append a b = sum_by-append one_line a b

ends_none : (test : ℕ → Bool) (b : ℕ) → test 10 ≡ false → test b ≡ true → one_line b ≤ 0
ends_none test b other is = ⊎_elim
    (λ (q : (b == line_feed) ≡ true). absurd (false≢true (sym other ∙ ap test (sym (eqb-true b 10 q)) ∙ is)))
    (λ (q : (b == line_feed) ≡ false). rw q (omega arith))
    (cases_Bool (b == line_feed))

-- bytes of a class without LF end no line
no_lines : (test : ℕ → Bool) (bytes : List ℕ) → test 10 ≡ false → AllPass test bytes → lines_in bytes ≡ 0
no_lines test bytes other all = omega (arith, sum_by-le one_line 0 bytes (λ k d lt. ends_none test (get_or bytes k d) other (all k d lt)))

no_token : is_token_byte 10 ≡ false
unfolding is_token_byte
no_token = refl

cut_end_lines : (e : LineEnd) → lines_in (cut_end e) ≡ 0
cut_end_lines crlf = refl
cut_end_lines lf = refl

-- a field line without its LF
abbrev cut_field : Field → List ℕ
cut_field f = (f.name ++ 58 ∷ f.raw) ++ cut_end f.end

field_cut : (f : Field) → print_field f ≡ cut_field f ++ 10 ∷ []
field_cut f = ap (λ (t : List ℕ). (f.name ++ 58 ∷ f.raw) ++ t) (end_cut f.end) ∙ sym (append_assoc (f.name ++ 58 ∷ f.raw) (cut_end f.end) (10 ∷ []))

cut_field_lines : (f : Field) → IsField f → lines_in (cut_field f) ≡ 0
cut_field_lines f is =
    omega (arith, lines-append (f.name ++ 58 ∷ f.raw) (cut_end f.end), cut_end_lines f.end, lines-append f.name (58 ∷ f.raw), lines-append (58 ∷ []) f.raw, no_lines is_token_byte f.name no_token is.name.1, no_lines is_value_byte f.raw refl is.raw)

-- Fields are lines.

field_lines : (f : Field) → 0 < lines_in (print_field f)
field_lines f = omega (arith, ap lines_in (field_cut f), lines-append (cut_field f) (10 ∷ []))

fields_lines : (fs : List Field) → length fs ≤ lines_in (flat_map print_field fs)
fields_lines [] = omega arith
fields_lines (f ∷ fs) = omega (arith, field_lines f, lines-append (print_field f) (flat_map print_field fs), fields_lines fs)

pub exceeds_lines : (room : ℕ) (text : List ℕ) → SectionExceeds room text → room < lines_in text
exceeds_lines room text (front, behind, e, fs, reads, many) =
    omega (arith, many, fields_lines fs, ap lines_in (lines_of_section front fs reads), lines-append front behind, ap lines_in e)

-- Lines are fields.

-- the text has the line whole
abbrev HasLineWhole : List ℕ → List ℕ → List ℕ → List ℕ → Type 0
HasLineWhole text more line rest = (t : List ℕ) × (text ≡ (line ++ 10 ∷ []) ++ t) × (t ++ more ≡ rest)

whole_line : (text more line rest : List ℕ) → text ++ more ≡ (line ++ 10 ∷ []) ++ rest → length line < length text → HasLineWhole text more line rest
whole_line text more line rest e long =
    let front = line ++ 10 ∷ [] in
    let n = length front in
    let within : n ≤ length text = omega (arith, length-append line (10 ∷ [])) in
    let begins : take n text ≡ front = sym (take-append-le n text more within) ∙ ap (take n) e ∙ take-append_seam front rest in (
      drop n text,
      sym (take-append-drop n text) ∙ ap (λ (t : List ℕ). t ++ drop n text) begins,
      sym (drop-append-le n text more within) ∙ ap (drop n) e ∙ drop-append_seam front rest,
    )

inside_line : (text more line rest : List ℕ) → text ++ more ≡ (line ++ 10 ∷ []) ++ rest → length text ≤ length line → lines_in line ≡ 0 → lines_in text ≡ 0
inside_line text more line rest e short none =
    let n = length text in
    let begins : text ≡ take n line =
    sym (take-append_seam text more) ∙ ap (take n) (e ∙ append_assoc line (10 ∷ []) rest) ∙ take-append-le n line (10 ∷ rest) short in
    omega (arith, none, ap lines_in begins, sum_by-take-le one_line line n)

-- a text that goes on to a line ends inside it, or has it whole
line_or_inside : (text more line rest : List ℕ) → text ++ more ≡ (line ++ 10 ∷ []) ++ rest → lines_in line ≡ 0 → HasLineWhole text more line rest ⊎ (lines_in text ≡ 0)
line_or_inside text more line rest e none = ⊎_elim
    (λ (long : length line < length text). inl (whole_line text more line rest e long))
    (λ (short : length text ≤ length line). inr (inside_line text more line rest e short none))
    (cases_lt (length line) (length text))

-- the text is field lines, as many as it has lines, and a rest
record AreFields (text : List ℕ) : Type 0 where
  fields : List Field
  rest : List ℕ
  each : All IsField fields
  whole : text ≡ flat_map print_field fields ++ rest
  many : lines_in text ≡ length fields

no_fields : (text : List ℕ) → lines_in text ≡ 0 → AreFields text
no_fields text none = record { fields = []; rest = text; each = All-nil IsField; whole = refl; many = none }

one_more : (f : Field) (text t : List ℕ) → IsField f → text ≡ (cut_field f ++ 10 ∷ []) ++ t → AreFields t → AreFields text
one_more f text t is e x =
    let line = ap (λ (l : List ℕ). l ++ t) (sym (field_cut f)) in
    record {
      fields = f ∷ x.fields;
      rest = x.rest;
      each = All-cons IsField f x.fields is x.each;
      whole = e ∙ line ∙ ap (λ (l : List ℕ). print_field f ++ l) x.whole ∙ sym (append_assoc (print_field f) (flat_map print_field x.fields) x.rest);
      many = omega (arith, ap lines_in e, lines-append (cut_field f ++ 10 ∷ []) t, lines-append (cut_field f) (10 ∷ []), cut_field_lines f is, x.many);
    }

-- no section begins behind a field line
none_behind : (f : Field) (text t : List ℕ) → IsField f → text ≡ (cut_field f ++ 10 ∷ []) ++ t → HasNoSection text → HasNoSection t
none_behind f text t is e none gs last rest reads =
    none (f ∷ gs) last rest (
      All-cons IsField f gs is reads.0,
      e ∙ ap (λ (l : List ℕ). l ++ t) (sym (field_cut f)) ∙ ap (λ (l : List ℕ). print_field f ++ l) reads.1 ∙ regroup (print_field f) (flat_map print_field gs) (print_end last) rest,
    )
  where
    regroup : (a b c d : List ℕ) → a ++ ((b ++ c) ++ d) ≡ ((a ++ b) ++ c) ++ d
    regroup a b c d = simp append_assoc

are_fields : (fs : List Field) (text more : List ℕ) (last : LineEnd) → All IsField fs → text ++ more ≡ print_section fs last → HasNoSection text → AreFields text
are_fields [] text more last all e none =
    elim (line_or_inside text more (cut_end last) [] (e ∙ end_cut last ∙ sym (append-nil (cut_end last ++ 10 ∷ []))) (cut_end_lines last)) [
      | inl whole ↦ absurd (none [] last whole.0 (All-nil IsField, whole.1 ∙ ap (λ (l : List ℕ). l ++ whole.0) (sym (end_cut last))))
      | inr zero ↦ no_fields text zero
    ]
are_fields (f ∷ fs) text more last all e none =
    let is = All-head IsField f fs all in
    let begins = e ∙ append_assoc (print_field f) (flat_map print_field fs) (print_end last) ∙ ap (λ (l : List ℕ). l ++ print_section fs last) (field_cut f) in
    elim (line_or_inside text more (cut_field f) (print_section fs last) begins (cut_field_lines f is)) [
      | inl whole ↦ one_more f text whole.0 is whole.1 (are_fields fs whole.0 more last (All-tail IsField f fs all) whole.2 (none_behind f text whole.0 is whole.1 none))
      | inr zero ↦ no_fields text zero
    ]

pub lines_exceed : (room : ℕ) (text : List ℕ) → HasNoSection text → MayBecomeSection text → room < lines_in text → SectionExceeds room text
lines_exceed room text none (more, fs, last, reads) many =
    let x = are_fields fs text more last reads.0 (reads.1 ∙ append-nil (print_section fs last)) none in
    (flat_map print_field x.fields, x.rest, x.whole, x.fields, (x.each, sym (append-nil (print_section x.fields lf))), omega (arith, many, x.many))
