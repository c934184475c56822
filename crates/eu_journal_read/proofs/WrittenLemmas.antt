-- Lines that were written are lines
use Rattle.std.proofs.Common.{◌≡◌, ◌≢◌, ℕ, zero, suc, pos, negsuc, ◌+◌, ◌/◌, ◌%◌, Bool, true, false, cond, ◌||◌, ◌==◌, nat_lt, List, [], ◌∷◌, ◌++◌, map, refl, ap, ◌∙◌, append_assoc, arith, decimal}
use Rattle.std.proofs.lemmas.List.Concat.{flat_map-cons}
use Rattle.std.specs.Char.{digit_char}
use Rattle.std.specs.Fmt.{digit_glyph, digits, digits_onto}
use Rattle.json.specs.Print.{escape, escape_byte, quoted, token_text}
use Rattle.json.specs.Token.{Token}
use Rattle.serde_json.specs.Data.{Data, Items, Members, Num, array, boolean, float, item, member, negative, no_items, no_members, null, number, object, string, unsigned}
use Rattle.serde_json.specs.Written.{comma_if, compact_text, items_text, members_text, number_text}
use Rattle.eu_lines.proofs.Texts.{lines_of-line, no_end_append}
use Rattle.eu_lines.specs.Lines.{HasNoEnd, lines_of}
use Rattle.eu_journal.specs.Law.{bare, bare_line}
use Rattle.eu_journal.specs.Lines.{line_tree}
use Rattle.eu_journal.specs.declared.lines.JournalLine.{JournalLine}
use Rattle.eu_journal.specs.declared.lines.JournalLine.TheVariants as line
use Rattle.eu_model.specs.declared.commands.Reply.{Reply}
use Rattle.eu_model.specs.declared.commands.Reply.TheVariants as reply
use Rattle.eu_journal_text.specs.Text.{line_text, lines_text}
use Rattle.eu_journal_read.specs.Said.{filled, joined}

-- ---- what is written has no LF

digit_no_end : (d : ℕ) → digit_char d ≢ 10
digit_no_end d = by (nat_lt d 10)
  where
    by : (b : Bool) → cond b (48 + d) (87 + d) ≢ 10
    by true e = omega arith
    by false e = omega arith

glyph_no_end : (d : ℕ) → digit_glyph false d ≢ 10
glyph_no_end d = by (nat_lt d 10)
  where
    by : (b : Bool) → cond b (48 + d) (87 + d) ≢ 10
    by true e = omega arith
    by false e = omega arith

onto_no_end : (k n : ℕ) (acc : List ℕ) → HasNoEnd acc → HasNoEnd (digits_onto k 10 false n acc)
onto_no_end zero n acc h = h
onto_no_end (suc k) n acc h = by (n / 10 == 0) (onto_no_end k (n / 10) (digit_glyph false (n % 10) ∷ acc) (glyph_no_end (n % 10), h))
  where
    by : (b : Bool) → HasNoEnd (digits_onto k 10 false (n / 10) (digit_glyph false (n % 10) ∷ acc)) → HasNoEnd (cond b (digit_glyph false (n % 10) ∷ acc) (digits_onto k 10 false (n / 10) (digit_glyph false (n % 10) ∷ acc)))
    by true rest = (glyph_no_end (n % 10), h)
    by false rest = rest

decimal_no_end : (n : ℕ) → HasNoEnd (decimal n)
unfolding digits
decimal_no_end n = onto_no_end 64 n [] tt

number_no_end : (n : Num) → HasNoEnd (number_text n)
number_no_end (unsigned n) = decimal_no_end n
number_no_end (negative (pos n)) = decimal_no_end n
number_no_end (negative (negsuc n)) = (λ e. omega arith, decimal_no_end (suc n))
number_no_end (float x) = tt

-- a byte as it is, or by its code
plain_no_end : (b : Bool) (x : ℕ) → x ≢ 10 → HasNoEnd (cond b (92 ∷ 117 ∷ 48 ∷ 48 ∷ digit_char (x / 16) ∷ digit_char (x % 16) ∷ []) (x ∷ []))
plain_no_end true x h = (λ e. omega arith, (λ e. omega arith, (λ e. omega arith, (λ e. omega arith, (digit_no_end (x / 16), (digit_no_end (x % 16), tt))))))
plain_no_end false x h = (h, tt)

letter_no_end : (b c : Bool) (x : ℕ) → x ≢ 10 → HasNoEnd (cond b (92 ∷ x ∷ []) (cond c (92 ∷ 117 ∷ 48 ∷ 48 ∷ digit_char (x / 16) ∷ digit_char (x % 16) ∷ []) (x ∷ [])))
letter_no_end true c x h = (λ e. omega arith, (h, tt))
letter_no_end false c x h = plain_no_end c x h

byte_no_end : (x : ℕ) → HasNoEnd (escape_byte x)
unfolding escape_byte
byte_no_end x =
    by ((x == 34) || (x == 92)) (x == 8) (x == 12) (x == 10) (x == 13) (x == 9)
    (λ so e. let p : ((10 == 34) || (10 == 92)) ≡ true = rw e at so in cc)
    (λ so e. let p : (10 == 10) ≡ false = rw e at so in cc)
  where
    by : (b1 b2 b3 b4 b5 b6 : Bool) → (b1 ≡ true → x ≢ 10) → (b4 ≡ false → x ≢ 10)
        → let letter = cond b1 x (cond b2 98 (cond b3 102 (cond b4 110 (cond b5 114 (cond b6 116 0))))) in
        HasNoEnd (cond (nat_lt 0 letter) (92 ∷ letter ∷ []) (cond (nat_lt x 32) (92 ∷ 117 ∷ 48 ∷ 48 ∷ digit_char (x / 16) ∷ digit_char (x % 16) ∷ []) (x ∷ [])))
    by true b2 b3 b4 b5 b6 h k = letter_no_end (nat_lt 0 x) (nat_lt x 32) x (h refl)
    by false true b3 b4 b5 b6 h k = (λ e. omega arith, (λ e. omega arith, tt))
    by false false true b4 b5 b6 h k = (λ e. omega arith, (λ e. omega arith, tt))
    by false false false true b5 b6 h k = (λ e. omega arith, (λ e. omega arith, tt))
    by false false false false true b6 h k = (λ e. omega arith, (λ e. omega arith, tt))
    by false false false false false true h k = (λ e. omega arith, (λ e. omega arith, tt))
    by false false false false false false h k = plain_no_end (nat_lt x 32) x (k refl)

escape_no_end : (s : List ℕ) → HasNoEnd (escape s)
escape_no_end [] = tt
escape_no_end (x ∷ xs) = rw (flat_map-cons escape_byte x xs) (no_end_append (escape_byte x) (escape xs) (byte_no_end x) (escape_no_end xs))

quoted_no_end : (s : List ℕ) → HasNoEnd (quoted s)
quoted_no_end s = (λ e. omega arith, no_end_append (escape s) (34 ∷ []) (escape_no_end s) (λ e. omega arith, tt))

comma_no_end : (later : Bool) → HasNoEnd (comma_if later)
comma_no_end true = (λ e. omega arith, tt)
comma_no_end false = tt

bool_no_end : (b : Bool) → HasNoEnd (token_text (Token.boolean b))
bool_no_end true = (λ e. omega arith, (λ e. omega arith, (λ e. omega arith, (λ e. omega arith, tt))))
bool_no_end false = (λ e. omega arith, (λ e. omega arith, (λ e. omega arith, (λ e. omega arith, (λ e. omega arith, tt)))))

mutual
  compact_no_end : (d : Data) → HasNoEnd (compact_text d)
  compact_no_end null = (λ e. omega arith, (λ e. omega arith, (λ e. omega arith, (λ e. omega arith, tt))))
  compact_no_end (boolean b) = bool_no_end b
  compact_no_end (number n) = number_no_end n
  compact_no_end (string s) = quoted_no_end s
  compact_no_end (array ds) = (λ e. omega arith, items_no_end false ds)
  compact_no_end (object ms) = (λ e. omega arith, members_no_end false ms)

  items_no_end : (later : Bool) (ds : Items) → HasNoEnd (items_text later ds)
  items_no_end later no_items = (λ e. omega arith, tt)
  items_no_end later (item d ds) =
      no_end_append (comma_if later) (compact_text d ++ items_text true ds) (comma_no_end later) (no_end_append (compact_text d) (items_text true ds) (compact_no_end d) (items_no_end true ds))

  members_no_end : (later : Bool) (ms : Members) → HasNoEnd (members_text later ms)
  members_no_end later no_members = (λ e. omega arith, tt)
  members_no_end later (member k d ms) =
      no_end_append (comma_if later) (quoted k ++ 58 ∷ (compact_text d ++ members_text true ms)) (comma_no_end later)
      (no_end_append (quoted k) (58 ∷ (compact_text d ++ members_text true ms)) (quoted_no_end k) (λ e. omega arith, no_end_append (compact_text d) (members_text true ms) (compact_no_end d) (members_no_end true ms)))

-- ---- the lines of what is written

abbrev pub text_of : JournalLine → List ℕ
text_of l = compact_text (line_tree l)

starts : (l : JournalLine) → (rest : List ℕ) × (text_of l ≡ 123 ∷ rest)
starts (line.Head h) = (_, refl)
starts (line.Lease l) = (_, refl)
starts (line.Row id status) = (_, refl)
starts line.Peer = (_, refl)
starts (line.Waiting t) = (_, refl)
starts (line.Flight t) = (_, refl)
starts (line.Asked pass n moment command) = (_, refl)
starts (line.Answered r) = (_, refl)
starts (line.Victim k) = (_, refl)
starts (line.Sent t) = (_, refl)
starts (line.Digest text) = (_, refl)

pub written_lines : (ls : List JournalLine) → lines_of (lines_text ls) ≡ map text_of ls ++ [] ∷ []
unfolding line_text
written_lines [] = refl
written_lines (l ∷ ls) =
    ap lines_of (append_assoc (text_of l) (10 ∷ []) (lines_text ls)) ∙ lines_of-line (text_of l) (lines_text ls) (compact_no_end (line_tree l)) ∙ ap (λ (xs : List (List ℕ)). text_of l ∷ xs) (written_lines ls)

pub written_filled : (ls : List JournalLine) → filled (map text_of ls ++ [] ∷ []) ≡ map text_of ls
written_filled [] = refl
written_filled (l ∷ ls) =
    let start = starts l in
    rw (start.1) (ap (λ (xs : List (List ℕ)). (123 ∷ start.0) ∷ xs) (written_filled ls))

pub written_joined : (ls : List JournalLine) → joined (map text_of ls) ≡ lines_text ls
unfolding line_text
written_joined [] = refl
written_joined (l ∷ ls) = ap (λ (t : List ℕ). (text_of l ++ 10 ∷ []) ++ t) (written_joined ls)

bare_twice : (r : Reply) → bare (bare r) ≡ bare r
bare_twice (reply.Evicted keys) = refl
bare_twice (reply.Batch tasks) = refl
bare_twice (reply.Registered fresh) = refl
bare_twice reply.Done = refl
bare_twice reply.NotFound = refl
bare_twice reply.Stale = refl
bare_twice (reply.Conflict i) = refl
bare_twice (reply.Last n) = refl
bare_twice (reply.Expected n) = refl
bare_twice reply.Settled = refl

pub bare_line_twice : (l : JournalLine) → bare_line (bare_line l) ≡ bare_line l
bare_line_twice (line.Answered r) = ap line.Answered (bare_twice r)
bare_line_twice (line.Head h) = refl
bare_line_twice (line.Lease l) = refl
bare_line_twice (line.Row id status) = refl
bare_line_twice line.Peer = refl
bare_line_twice (line.Waiting t) = refl
bare_line_twice (line.Flight t) = refl
bare_line_twice (line.Asked pass n moment command) = refl
bare_line_twice (line.Victim k) = refl
bare_line_twice (line.Sent t) = refl
bare_line_twice (line.Digest text) = refl
