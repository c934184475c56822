-- A whole head has no fault, and neither has the end before one.
use Rattle.std.proofs.Common.{◌≡◌, ℕ, ◌-◌, ◌<◌, ◌≤◌, inl, inr, true, List, [], ◌∷◌, ◌++◌, length, take, drop, refl, sym, ap, ◌∙◌, subst, append_assoc, append-nil, length-append, flat_map, Bool, IsUtf8, arith}
use Rattle.std.proofs.lemmas.List.{take-append-drop, take_all, append_cancel_right}
use Rattle.std.proofs.lemmas.List.Elements.{All-cons, All-nil}
use Rattle.std.proofs.lemmas.Str.{IsUtf8-from_ascii}
use Rattle.std.proofs.lemmas.Str.Ascii.{IsAscii-from_all}
use Rattle.httparse.specs.Grammar.{is_token_byte, is_uri_byte, LineEnd, crlf, lf, print_end, print_blank, print_version, Field, IsField, print_field, print_section, ReadsSection, RequestHead, print_request, ReadsRequest, NeverHasRequest}
use Rattle.httparse.specs.Pieces.{Stops, Section, FieldLines, RequestStart}
use Rattle.httparse.specs.Spans.{RequestExceeds, SectionExceeds}
use Rattle.httparse.proofs.GrammarLemmas.{request_tree, print_request-append, request_pieces}
use Rattle.httparse.proofs.PieceLemmas.{Section_skip, Stops_token, Blank_deterministic, RequestStart_deterministic}
use Rattle.eu_base.specs.declared.faults.Fault.{Fault}
use Rattle.eu_framing.specs.Message.{max_head, HasHead, IsBlank, IsEnd, IsHeadFault}
use Rattle.eu_framing.proofs.HeadLemmas.{take_front, window_all}

-- a front within the limit stands in the window
pub front_in_window : (n : ℕ) (text front rest : List ℕ) → text ≡ front ++ rest → length front ≤ n → take n text ≡ front ++ take (n - length front) rest
front_in_window n text front rest e fits =
    ap (take n) e ∙ take_front n front rest ∙ ap (λ (t : List ℕ). t ++ take (n - length front) rest) (take_all n front fits)

-- a front of the window is a front of the text
pub front_of_window : (n : ℕ) (text front rest : List ℕ) → take n text ≡ front ++ rest → text ≡ front ++ (rest ++ drop n text)
front_of_window n text front rest e =
    sym (take-append-drop n text) ∙ ap (λ (t : List ℕ). t ++ drop n text) e ∙ append_assoc front rest (drop n text)

-- Sections with many fields.

-- a text that begins with field lines has at least these
lines_first : (fs gs : List Field) (last : LineEnd) (text middle rest : List ℕ) → FieldLines fs text middle → Section (gs, last) text rest → length fs ≤ length gs
lines_first fs gs last text middle rest lines section =
    let skipped = Section_skip fs gs last text middle rest lines section in
    omega (arith, ap length skipped.1, length-append fs skipped.0)

-- what an empty line makes a section is field lines
pub lines_of_section : (front : List ℕ) (fs : List Field) → ReadsSection (front ++ print_end lf) fs lf [] → front ≡ flat_map print_field fs
lines_of_section front fs reads = append_cancel_right front (flat_map print_field fs) (10 ∷ []) (reads.1 ∙ append-nil (print_section fs lf))

pub crowded_section : (room n : ℕ) (text : List ℕ) (fields : List Field) (last : LineEnd) (rest : List ℕ) → SectionExceeds room (take n text) → ReadsSection text fields last rest → room < length fields
crowded_section room n text fields last rest (front, behind, e, fs, reads, many) section =
    let stands = front_of_window n text front behind e ∙ ap (λ (t : List ℕ). t ++ (behind ++ drop n text)) (lines_of_section front fs reads) in
    omega (arith, many, lines_first fs fields last text (behind ++ drop n text) rest (reads.0, stands) section)

-- Heads with many fields.

-- a request line, and what is behind it
abbrev start_text : RequestHead → List ℕ → List ℕ
start_text h tail = print_blank h.blank ++ (h.method ++ 32 ∷ (h.target ++ 32 ∷ (print_version h.minor ++ (print_end h.line_end ++ tail))))

start_more : (h : RequestHead) (tail more : List ℕ) → start_text h tail ++ more ≡ start_text h (tail ++ more)
start_more h tail more = regroup (print_blank h.blank) h.method h.target (print_version h.minor) (print_end h.line_end) tail more
  where
    regroup : (a b c d e f r : List ℕ) → (a ++ (b ++ 32 ∷ (c ++ 32 ∷ (d ++ (e ++ f))))) ++ r ≡ a ++ (b ++ 32 ∷ (c ++ 32 ∷ (d ++ (e ++ (f ++ r)))))
    regroup a b c d e f r = simp append_assoc

-- the first part of the empty line
abbrev pub cut_end : LineEnd → List ℕ
cut_end crlf = 13 ∷ []
cut_end lf = []

pub end_cut : (last : LineEnd) → print_end last ≡ cut_end last ++ 10 ∷ []
end_cut crlf = refl
end_cut lf = refl

-- a head whose last LF is cut off
cut_head : (front : List ℕ) (h : RequestHead) → front ++ 10 ∷ [] ≡ print_request h ++ [] → front ≡ start_text h (flat_map print_field h.fields ++ cut_end h.last)
cut_head front h e =
    let fields = flat_map print_field h.fields in
    let section : print_section h.fields h.last ++ [] ≡ (fields ++ cut_end h.last) ++ 10 ∷ [] =
    append-nil (print_section h.fields h.last) ∙ ap (λ (t : List ℕ). fields ++ t) (end_cut h.last) ∙ sym (append_assoc fields (cut_end h.last) (10 ∷ [])) in
    append_cancel_right front (start_text h (fields ++ cut_end h.last)) (10 ∷ [])
    (e ∙ print_request-append h [] ∙ ap (start_text h) section ∙ sym (start_more h (fields ++ cut_end h.last) (10 ∷ [])))

-- what a head with too many fields leaves of itself at the front of the text
record Crowded (room : ℕ) (text : List ℕ) : Type 0 where
  h : RequestHead
  middle : List ℕ
  rest : List ℕ
  start : RequestStart (request_tree h).0 text middle
  lines : FieldLines h.fields middle rest
  many : room < length h.fields

crowded_front : (room n : ℕ) (text : List ℕ) → RequestExceeds room (take n text) → Crowded room text
crowded_front room n text (front, behind, e, h, reads, many) =
    let fields = flat_map print_field h.fields in
    let more = behind ++ drop n text in
    let middle = (fields ++ cut_end h.last) ++ more in
    let stands : text ≡ start_text h middle =
    front_of_window n text front behind e ∙ ap (λ (t : List ℕ). t ++ more) (cut_head front h reads.1) ∙ start_more h (fields ++ cut_end h.last) more in
    record {
      h = h;
      middle = middle;
      rest = cut_end h.last ++ more;
      start = (
        _,
        (stands, Stops_token h.method _ reads.0.method.0 reads.0.method.1),
        (
          _,
          (reads.0.method.0, reads.0.method.1, refl),
          (_, ((reads.0.target.0, reads.0.target.1, refl), reads.0.target_text), (_, (reads.0.minor, refl), refl)),
        ),
      );
      lines = (reads.0.fields, append_assoc fields (cut_end h.last) more);
      many = many;
    }

crowded_head : (room n : ℕ) (text : List ℕ) (h : RequestHead) (rest : List ℕ) → RequestExceeds room (take n text) → ReadsRequest text h rest → room < length h.fields
crowded_head room n text h rest x reads =
    let c = crowded_front room n text x in
    let pieces = request_pieces text h rest reads in
    let same = RequestStart_deterministic.unique (request_tree c.h).0 (request_tree h).0 text c.middle pieces.0 c.start pieces.1 in
    let lines = subst (λ (t : List ℕ). FieldLines c.h.fields t c.rest) same.1 c.lines in
    omega (arith, c.many, lines_first c.h.fields h.fields h.last pieces.0 c.rest rest lines pieces.2)

pub head_is_whole : (bytes : List ℕ) (h : RequestHead) (after : List ℕ) (fault : Fault) → HasHead bytes h after → ¬ (IsHeadFault bytes fault)
head_is_whole bytes h after fault has (inl (is, inl long)) =
    long.1 h (take (max_head - length (print_request h)) after) (has.reads.0, front_in_window max_head bytes (print_request h) after has.reads.1 has.short)
head_is_whole bytes h after fault has (inl (is, inr many)) = omega (arith, has.few, crowded_head 64 max_head bytes h after many has.reads)
head_is_whole bytes h after fault has (inr (is, inl never)) =
    never (drop max_head bytes) h after (subst (λ (t : List ℕ). ReadsRequest t h after) (sym (take-append-drop max_head bytes)) has.reads)
head_is_whole bytes h after fault has (inr (is, inr cut)) = cut.1 h after has.reads

-- The end.

stops_some : (test : ℕ → Bool) (text : List ℕ) → Stops test text → 0 < length text
stops_some test [] stops = absurd stops
stops_some test (b ∷ text) stops = omega arith

-- empty lines alone don't begin with a request line
blank_no_start : (h : RequestHead) (bytes middle : List ℕ) → IsBlank bytes → ¬ (RequestStart (request_tree h).0 bytes middle)
blank_no_start h bytes middle blank start =
    let more : List ℕ = 65 ∷ [] in
    let same = Blank_deterministic.unique h.blank blank.0 (bytes ++ more) (start.0 ++ more) more
    (Blank_deterministic.append h.blank bytes start.0 more start.1) (ap (λ (t : List ℕ). t ++ more) blank.1, refl) in
    omega (arith, ap length same.1, length-append start.0 more, stops_some _ start.0 start.1.1)

pub end_has_no_head : (bytes : List ℕ) (h : RequestHead) (after : List ℕ) → IsEnd bytes → ¬ (HasHead bytes h after)
end_has_no_head bytes h after end has =
    let pieces = request_pieces bytes h after has.reads in
    blank_no_start h bytes pieces.0 end.1 pieces.1

letter_is_token : is_token_byte 65 ≡ true
unfolding is_token_byte
letter_is_token = refl

slash_is_text : IsUtf8 (47 ∷ [])
slash_is_text = IsUtf8-from_ascii (47 ∷ []) (IsAscii-from_all (47 ∷ []) (All-cons (λ b. b < 128) 47 [] (omega arith) (All-nil (λ b. b < 128))))

-- a head can still come behind empty lines
blank_may_become : (ends : List LineEnd) → ¬ (NeverHasRequest (print_blank ends))
blank_may_become ends never =
    let h : RequestHead = record { blank = ends; method = 65 ∷ []; target = 47 ∷ []; minor = 1; line_end = lf; fields = []; last = lf } in
    never (65 ∷ 32 ∷ 47 ∷ 32 ∷ (print_version 1 ++ (10 ∷ 10 ∷ []))) h [] (
      record {
        method = (omega arith, All-cons (λ b. is_token_byte b ≡ true) 65 [] letter_is_token (All-nil (λ b. is_token_byte b ≡ true)));
        target = (omega arith, All-cons (λ b. is_uri_byte b ≡ true) 47 [] refl (All-nil (λ b. is_uri_byte b ≡ true)));
        target_text = slash_is_text;
        minor = omega arith;
        fields = All-nil IsField;
      },
      sym (print_request-append h []),
    )

pub end_has_no_head_fault : (bytes : List ℕ) (fault : Fault) → IsEnd bytes → ¬ (IsHeadFault bytes fault)
end_has_no_head_fault bytes fault end (inl (is, inl long)) = omega (arith, end.0, long.0)
end_has_no_head_fault bytes fault end (inl (is, inr many)) =
    let c = crowded_front 64 max_head bytes many in
    blank_no_start c.h bytes c.middle end.1 c.start
end_has_no_head_fault bytes fault end (inr (is, inl never)) = blank_may_become end.1.0 (subst NeverHasRequest (window_all bytes end.0 ∙ end.1.1) never)
end_has_no_head_fault bytes fault end (inr (is, inr cut)) = cut.2 end.1
