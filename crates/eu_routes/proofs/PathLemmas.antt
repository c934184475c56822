-- Slashes, prefixes and names
use mathlib.Core.Logic.{inl, inr}
use Rattle.std.proofs.Common.{◌≡◌, ◌≢◌, ◌⊎◌, Bool, Result, ℕ, ◌+◌, ◌-◌, ◌<◌, ◌≤◌, true, false, not, List, [], length, get_or, take, drop, map, Ok, Err, refl, sym, ◌∙◌, ap, arith, ◌==◌, eq-eqb, length-drop, length-take, ◌++◌, ◌∷◌, nat_eq, length-append, Option, Some, None, Bor, codes}
use Rattle.std.proofs.lemmas.Bool.{ne_eqb, false_from_ne_true}
use Rattle.std.proofs.lemmas.Bool.Decides.{nat_tests, Decides-eqb}
use Rattle.std.proofs.Math.ListN.{get_or-map}
use Rattle.std.proofs.Math.Seq.{take-append_seam}
use Rattle.std.proofs.lemmas.List.{get_or-drop, length-map}
use Rattle.std.proofs.lemmas.List.Elements.{All-drop, All-head, All-tail, All-take}
use Rattle.std.proofs.lemmas.Slice.Eq.{bytes_eq-Decides, ends_is}
use Rattle.std.specs.Option.{MatchOption, unwrap_or}
use Rattle.std.proofs.lemmas.List.Sums.{position_or_len_is, suffix_len_is}
use Rattle.std.proofs.lemmas.Str.{IsUtf8-from_ascii, IsCharBoundary-from_take, is_utf8-from_IsUtf8, IsUtf8-from_is_utf8}
use Rattle.std.proofs.lemmas.Str.Pattern.{NoCharPasses-char}
use Rattle.std.specs.Char.{to_ascii_lowercase}
use Rattle.std.specs.List.{ends_with, position_or_len}
use Rattle.std.specs.Prelude.{if◌then◌else◌}
use Rattle.std.specs.Str.{str_to_ascii_uppercase, is_utf8, IsUtf8, IsAscii, IsCharBoundary, NoCharPasses}
use Rattle.std.specs.Str.Pattern.{HasCharAt}
use Rattle.percent_encoding.specs.Percent.{percent_decode}
use Rattle.percent_encoding.proofs.PercentLemmas.{percent_decode-nil, percent_decode_not_percent}
use Rattle.eu_base.specs.declared.faults.Fault.{Fault}
use Rattle.eu_base.specs.declared.faults.Fault.TheVariants.{BadPath}
use Rattle.eu_base.specs.declared.names.Key.{Key}
use Rattle.eu_base.specs.Gives.{◌>>=◌}
use Rattle.eu_routes.specs.Path.{last_len, last_segment, parent, begins_with, without_slash, text_at, app_of, as_name, app_at, id_at, key_at, key_of, is_name, from_slash, without_host, path_of, IsUncoded}

-- a fault is want of memory, or what follows from what is said
pub or_said : {A B C : Type 0} → A ⊎ B → (B → C) → A ⊎ C
or_said (inl a) f = inl a
or_said (inr b) f = inr (f b)

-- the first slash of a text
pub first_slash : (text : List ℕ) (k : ℕ) → k < length text → get_or text k 0 ≡ 47 → ((i : ℕ) → i < k → get_or text i 0 ≢ 47) → position_or_len (λ b. b == 47) text ≡ k
first_slash text k within here before =
    position_or_len_is (λ b. b == 47) text k 0 (omega arith) (λ i l. ne_eqb _ 47 (before i l)) (λ l. eq-eqb _ 47 here)

pub no_slash : (text : List ℕ) → ((i : ℕ) → i < length text → get_or text i 0 ≢ 47) → position_or_len (λ b. b == 47) text ≡ length text
no_slash text before =
    position_or_len_is (λ b. b == 47) text (length text) 0 (omega arith) (λ i l. ne_eqb _ 47 (before i l)) (λ l. absurd (omega arith))

-- the last slash of a path, and what is behind it
after_last : (path : List ℕ) (j : ℕ) → j ≤ length path → ((k : ℕ) → j ≤ k → k < length path → get_or path k 0 ≢ 47) → (0 < j → get_or path (j - 1) 0 ≡ 47) → last_len path ≡ length path - j
after_last path j within after at =
    suffix_len_is (λ b. not (b == 47)) path j 0 within (λ k l m. ap not (ne_eqb _ 47 (after k l m))) (λ l. ap not (eq-eqb _ 47 (at l)))

not_behind : (path : List ℕ) (j k : ℕ) → NoCharPasses (λ d. d == 47) (drop j path) → j ≤ k → k < length path → get_or path k 0 ≢ 47
not_behind path j k none low high e =
    let back : j + (k - j) ≡ k = omega arith in
    let there : get_or (drop j path) (k - j) 0 ≡ 47 = get_or-drop j path (k - j) 0 ∙ (ap (λ n. get_or path n 0) back ∙ e) in
    NoCharPasses-char 47 (drop j path) (k - j) none (omega arith) (omega (arith, length-drop j path)) there

behind_slash : (path : List ℕ) (i j : ℕ) → NoCharPasses (λ d. d == 47) (drop j path) → HasCharAt 47 path i j → j ≤ length path → (last_len path ≡ length path - j) × (j ≡ i + 1)
behind_slash path i j none at within =
    let next : j ≡ i + 1 = at.ends in
    let back : j - 1 ≡ i = omega arith in
    (after_last path j within (λ k. not_behind path j k none) (λ l. ap (λ n. get_or path n 0) back ∙ at.byte (omega arith)), next)

pub cut_behind : (path behind : List ℕ) (i j : ℕ) → NoCharPasses (λ d. d == 47) (drop j path) → HasCharAt 47 path i j → behind ≡ drop j path → length behind + j ≡ length path → behind ≡ last_segment path
unfolding last_segment
cut_behind path behind i j none at e len =
    let p = behind_slash path i j none at (omega arith) in
    let place : j ≡ length path - last_len path = omega (arith, p.0) in
    e ∙ ap (λ n. drop n path) place

pub cut_before : (path before behind : List ℕ) (i j : ℕ) → NoCharPasses (λ d. d == 47) (drop j path) → HasCharAt 47 path i j → before ≡ take i path → length behind + j ≡ length path → before ≡ parent path
unfolding parent
cut_before path before behind i j none at e len =
    let p = behind_slash path i j none at (omega arith) in
    let place : i ≡ length path - last_len path - 1 = omega (arith, p.0, p.1) in
    e ∙ ap (λ n. take n path) place

none_behind : (path : List ℕ) → NoCharPasses (λ d. d == 47) path → last_len path ≡ length path
none_behind path none = after_last path 0 (omega arith) (λ k l m. NoCharPasses-char 47 path k none (omega arith) m) (λ l. absurd (omega arith)) ∙ omega arith

pub uncut_behind : (path : List ℕ) → NoCharPasses (λ d. d == 47) path → path ≡ last_segment path
unfolding last_segment
uncut_behind path none =
    let place : 0 ≡ length path - last_len path = omega (arith, none_behind path none) in
    ap (λ n. drop n path) place

pub uncut_before : (path : List ℕ) → NoCharPasses (λ d. d == 47) path → [] ≡ parent path
unfolding parent
uncut_before path none =
    let place : 0 ≡ length path - last_len path - 1 = omega (arith, none_behind path none) in
    ap (λ n. take n path) place

-- a segment in which nothing is encoded stands for itself
decodes_to_itself : (text : List ℕ) → IsUncoded text → percent_decode text ≡ text
decodes_to_itself [] h = percent_decode-nil
decodes_to_itself (b ∷ bs) h = percent_decode_not_percent b bs (All-head (λ c. c ≢ 37) b bs h) ∙ ap (λ rest. b ∷ rest) (decodes_to_itself bs (All-tail (λ c. c ≢ 37) b bs h))

pub uncoded_text : (segment : List ℕ) → IsUncoded segment → IsUtf8 segment → text_at segment ≡ Ok segment
unfolding text_at
uncoded_text segment h utf8 = rw (decodes_to_itself segment h, is_utf8-from_IsUtf8 _ utf8) refl

-- a segment of UTF-8 stands for its text, and no other does
pub utf8_text : (segment text : List ℕ) → text ≡ percent_decode segment → IsUtf8 (percent_decode segment) → text_at segment ≡ Ok text
unfolding text_at
utf8_text segment text e utf8 = rw (is_utf8-from_IsUtf8 _ utf8, e) refl

pub other_text : (segment : List ℕ) → (IsUtf8 (percent_decode segment) → ⊥) → text_at segment ≡ Err BadPath
unfolding text_at
other_text segment other = rw (false_from_ne_true _ (λ e. other (IsUtf8-from_is_utf8 _ e))) refl

-- a prefix in letters of either case ends between characters
lowers_to_ascii : (c : ℕ) → to_ascii_lowercase c < 128 → c < 128
lowers_to_ascii c h = grind (arith, nat_tests)

ascii_front : (prefix front : List ℕ) → IsAscii prefix → map to_ascii_lowercase front ≡ prefix → IsAscii front
ascii_front prefix front ascii e i =
    let here : to_ascii_lowercase (get_or front i 0) ≡ get_or prefix i 0 = sym (get_or-map to_ascii_lowercase front i 0) ∙ ap (λ l. get_or l i 0) e in
    lowers_to_ascii _ (rw here (ascii i))

pub no_prefix : (prefix text : List ℕ) → IsAscii prefix → IsUtf8 text → (IsCharBoundary text (length prefix) → ⊥) → begins_with prefix text ≡ false
no_prefix prefix text ascii utf8 uncut =
    false_from_ne_true _ (λ same.
    let front = take (length prefix) text in
    let e : map to_ascii_lowercase front ≡ prefix = (bytes_eq-Decides _ prefix).0 same in
    let len : length front ≡ length prefix = sym (length-map front to_ascii_lowercase) ∙ ap length e in
    let within : length prefix ≤ length text = omega (arith, len, length-take (length prefix) text) in
    uncut (IsCharBoundary-from_take text (length prefix) utf8 within (IsUtf8-from_ascii front (ascii_front prefix front ascii e))))

-- one slash at the end is dropped
pub stripped : (path : List ℕ) (r : Option (Bor (List ℕ))) (whole : Bor (List ℕ)) → MatchOption r ((front : List ℕ) → path ≢ front ++ (47 ∷ [])) (λ x. path ≡ x.now ++ (47 ∷ [])) → whole.now ≡ path → (unwrap_or r whole).now ≡ without_slash path
unfolding without_slash
stripped path None whole none e =
    let other = false_from_ne_true (ends_with nat_eq path (47 ∷ [])) (λ h. none _ ((ends_is Decides-eqb path (47 ∷ []) _ refl).0 h)) in
    rw other e
stripped path (Some x) whole some e =
    let there : ends_with nat_eq path (47 ∷ []) ≡ true = (ends_is Decides-eqb path (47 ∷ []) _ refl).1 x.now some in
    let len : length path - 1 ≡ length x.now = omega (arith, ap length some, length-append x.now (47 ∷ [])) in
    rw (there, len) (sym (ap (take (length x.now)) some ∙ take-append_seam x.now (47 ∷ [])))

-- ---- leases

-- where nothing in a path is encoded, nothing in its last segment is, nor before that
pub uncoded_last : (path : List ℕ) → IsUncoded path → IsUncoded (last_segment path)
unfolding last_segment
uncoded_last path h = All-drop (λ b. b ≢ 37) (length path - last_len path) path h

pub uncoded_parent : (path : List ℕ) → IsUncoded path → IsUncoded (parent path)
unfolding parent
uncoded_parent path h = All-take (λ b. b ≢ 37) (length path - last_len path - 1) path h

-- nor in the path that a target names
uncoded_slash : (path : List ℕ) → IsUncoded path → IsUncoded (from_slash path)
uncoded_slash path h = All-drop (λ b. b ≢ 37) (position_or_len (λ b. b == 47) path) path h

uncoded_host : (path : List ℕ) → IsUncoded path → IsUncoded (without_host path)
unfolding without_host
uncoded_host path h = by (begins_with (codes "http://") path) (begins_with (codes "https://") path)
  where
    by : (b c : Bool) → IsUncoded (if b then from_slash (drop 7 path) else if c then from_slash (drop 8 path) else path)
    by true c = uncoded_slash (drop 7 path) (All-drop (λ b. b ≢ 37) 7 path h)
    by false true = uncoded_slash (drop 8 path) (All-drop (λ b. b ≢ 37) 8 path h)
    by false false = h

pub uncoded_path : (path : List ℕ) → IsUncoded path → IsUncoded (path_of path)
unfolding without_slash
uncoded_path path h = by (ends_with nat_eq (without_host path) (47 ∷ []))
  where
    by : (b : Bool) → IsUncoded (if b then take (length (without_host path) - 1) (without_host path) else without_host path)
    by true = All-take (λ b. b ≢ 37) (length (without_host path) - 1) (without_host path) (uncoded_host path h)
    by false = uncoded_host path h

-- the texts of both segments decide which lease is named
pub key_by_texts : (path app id : List ℕ) → text_at (last_segment (parent path)) ≡ Ok app → text_at (last_segment path) ≡ Ok id → key_at path ≡ key_of app id
unfolding key_at app_at id_at key_of
key_by_texts path app id first second = rw (first, second) refl

-- where one of them is no text, none is named
pub no_app_text : (path : List ℕ) (f : Fault) → text_at (last_segment (parent path)) ≡ Err f → key_at path ≡ Err f
unfolding key_at app_at
no_app_text path f is = rw is refl

chosen_fails : {X : Type 0} (b : Bool) (x : X) (f : Fault) → (if b then Ok x else Err BadPath) ≡ Err f → f ≡ BadPath
chosen_fails true x f e = cc
chosen_fails false x f e = cc

text_fails : (segment : List ℕ) (f : Fault) → text_at segment ≡ Err f → f ≡ BadPath
unfolding text_at
text_fails segment f e = chosen_fails (is_utf8 (percent_decode segment)) (percent_decode segment) f e

app_fails : (text : List ℕ) (f : Fault) → app_of text ≡ Err f → f ≡ BadPath
unfolding app_of as_name
app_fails text f e = by (is_name text) e
  where
    by : (b : Bool) → ((if b then Ok text else Err BadPath) >>= λ name. Ok (str_to_ascii_uppercase name)) ≡ Err f → f ≡ BadPath
    by true e = cc
    by false e = cc

abbrev keyed : List ℕ → List ℕ → Result Key Fault
keyed app id = Ok (record { app = app; id = id })

pub no_id_text : (path : List ℕ) (f : Fault) → text_at (last_segment path) ≡ Err f → key_at path ≡ Err f
unfolding key_at app_at id_at
no_id_text path f is = by (text_at (last_segment (parent path))) refl
  where
    bad : f ≡ BadPath
    bad = text_fails (last_segment path) f is

    after : (r : Result (List ℕ) Fault) → ((g : Fault) → r ≡ Err g → g ≡ BadPath) → (r >>= λ app. (text_at (last_segment path) >>= as_name) >>= keyed app) ≡ Err f
    after (Ok app) fails = rw is refl
    after (Err g) fails = ap Err (fails g refl ∙ sym bad)

    by : (r : Result (List ℕ) Fault) → text_at (last_segment (parent path)) ≡ r → ((r >>= app_of) >>= λ app. (text_at (last_segment path) >>= as_name) >>= keyed app) ≡ Err f
    by (Ok text) e = after (app_of text) (app_fails text)
    by (Err g) e = ap Err (text_fails _ g e ∙ sym bad)
