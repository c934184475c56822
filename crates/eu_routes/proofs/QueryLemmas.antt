-- Stamps and statuses
use Rattle.std.proofs.Common.{◌≡◌, ℕ, ◌<◌, ◌^◌, Bool, true, false, List, [], ◌∷◌, length, Option, Some, None, Result, Ok, Err, SomeIff, refl, sym, subst, ◌∙◌, ap, arith, nat_lt, ◌&&◌, if◌then◌else◌}
use Rattle.std.proofs.lemmas.Bool.{and_parts, and_from, false_from_ne_true, ltb-true, lt-ltb}
use Rattle.std.specs.Str.{all_ascii_digits, bytes_eq}
use Rattle.std.specs.Str.Parse.{digits_value}
use Rattle.std.specs.Result.{OkIff, result_ok}
use Rattle.eu_base.specs.declared.faults.Fault.{Fault}
use Rattle.eu_base.specs.declared.statuses.Status.{Status}
use Rattle.std.proofs.lemmas.Slice.Eq.{bytes_eq-Decides}
use Rattle.std.proofs.lemmas.Str.{utf8_lossy-IsUtf8, IsUtf8-from_ascii}
use Rattle.std.proofs.lemmas.Str.Ascii.{IsAscii-from_all}
use Rattle.std.proofs.lemmas.List.Elements.{All-nil, All-cons}
use Rattle.std.specs.List.{All, list_all}
use Rattle.std.specs.Str.Lossy.{utf8_lossy}
use Rattle.form_urlencoded.specs.Form.{IsPlain, IsPlainText}
use Rattle.form_urlencoded.proofs.FormLemmas.{decode_plain}
use Rattle.eu_base.specs.Digits.{digits}
use Rattle.eu_routes.specs.declared.parameters.Parameter.{Parameter}
use Rattle.eu_routes.specs.declared.parameters.Parameter.TheVariants as parameters
use Rattle.eu_routes.specs.Query.{text_of, name_of, is_number, stamp_of, u32_of, value_at, stamp_given, status_given, stamp_at, status_at}

-- bytes that stand for themselves
pub plain_stands : (bytes : List ℕ) → IsPlainText bytes → text_of bytes ≡ bytes
plain_stands bytes plain = ap utf8_lossy (decode_plain bytes plain.0) ∙ utf8_lossy-IsUtf8 bytes plain.1

-- letters: neither an escape nor beyond ASCII
abbrev is_letter : ℕ → Bool
is_letter b = nat_lt 64 b && nat_lt b 128

letters : (bytes : List ℕ) → list_all is_letter bytes ≡ true → All IsPlain bytes × All (λ b. b < 128) bytes
letters [] all = (All-nil IsPlain, All-nil (λ b. b < 128))
letters (b ∷ bytes) all =
    let p = and_parts _ _ all in
    let q = and_parts _ _ p.0 in
    let rest = letters bytes p.1 in
    let high : 64 < b = ltb-true _ _ q.0 in
    (All-cons IsPlain b bytes ((λ is. omega (arith, high, is)), (λ is. omega (arith, high, is))) rest.0, All-cons (λ c. c < 128) b bytes (ltb-true _ _ q.1) rest.1)

-- the names of values are letters
name_letters : (p : Parameter) → list_all is_letter (name_of p) ≡ true
name_letters parameters.LastDirtyTimestamp = refl
name_letters parameters.Value = refl
name_letters parameters.OverriddenStatus = refl
name_letters parameters.Preservation = refl
name_letters parameters.Percent = refl
name_letters parameters.Interval = refl
name_letters parameters.EvictMs = refl

-- what is the name of a value stands for itself
pub named_stands : (bytes name : List ℕ) (p : Parameter) (same : Bool) → name ≡ name_of p → same ≡ bytes_eq bytes name → same ≡ true → text_of bytes ≡ bytes
named_stands bytes name p same named compared hit =
    let is : bytes ≡ name_of p = (bytes_eq-Decides bytes name).0 (sym compared ∙ hit) ∙ named in
    let all = letters bytes (subst (λ b. list_all is_letter b ≡ true) (sym is) (name_letters p)) in
    plain_stands bytes (all.0, IsUtf8-from_ascii bytes (IsAscii-from_all bytes all.1))

-- what the digits of a text tell
pub digits_some : (text : List ℕ) (v : ℕ) → digits text ≡ Some v → (length text < 20) × (all_ascii_digits text ≡ true) × (digits_value 10 text ≡ v)
digits_some text v e = by (nat_lt (length text) 20 && all_ascii_digits text) refl e
  where
    by : (b : Bool) → (nat_lt (length text) 20 && all_ascii_digits text) ≡ b → (if b then Some (digits_value 10 text) else None) ≡ Some v → (length text < 20) × (all_ascii_digits text ≡ true) × (digits_value 10 text ≡ v)
    by true is some = let p = and_parts _ _ is in (ltb-true _ _ p.0, p.1, cc)
    by false is some = cc

pub digits_none : (text : List ℕ) → digits text ≡ None → length text < 20 → all_ascii_digits text ≡ true → ⊥
digits_none text e short all = by (and_from _ _ (lt-ltb _ _ short) all) e
  where
    by : (nat_lt (length text) 20 && all_ascii_digits text) ≡ true → digits text ≡ None → ⊥
    by is none = cc

-- what is a number, and what isn't
module _ (most limit : ℕ) (text : List ℕ) where
  is : 0 < length text → length text < most → all_ascii_digits text ≡ true → digits_value 10 text < limit → is_number most limit text ≡ true
  is filled short all small = and_from _ _ (and_from _ _ (and_from _ _ (lt-ltb _ _ filled) (lt-ltb _ _ short)) all) (lt-ltb _ _ small)

  isnt : (0 < length text → length text < most → all_ascii_digits text ≡ true → digits_value 10 text < limit → ⊥) → is_number most limit text ≡ false
  isnt other = false_from_ne_true _ (λ e.
      let p = and_parts _ _ e in
      let q = and_parts _ _ p.0 in
      let r = and_parts _ _ q.0 in
      other (ltb-true _ _ r.0) (ltb-true _ _ r.1) q.1 (ltb-true _ _ p.1))

pub some_stamp : (text : List ℕ) → 0 < length text → length text < 20 → all_ascii_digits text ≡ true → digits_value 10 text < 2 ^ 63 → stamp_of text ≡ Some (digits_value 10 text)
unfolding stamp_of
some_stamp text filled short all small = rw (is 20 (2 ^ 63) text filled short all small) refl

pub no_stamp : (text : List ℕ) → (0 < length text → length text < 20 → all_ascii_digits text ≡ true → digits_value 10 text < 2 ^ 63 → ⊥) → stamp_of text ≡ None
unfolding stamp_of
no_stamp text other = rw (isnt 20 (2 ^ 63) text other) refl

some_u32 : (text : List ℕ) → 0 < length text → length text < 11 → all_ascii_digits text ≡ true → digits_value 10 text < 2 ^ 32 → u32_of text ≡ Some (digits_value 10 text)
unfolding u32_of
some_u32 text filled short all small = rw (is 11 (2 ^ 32) text filled short all small) refl

no_u32 : (text : List ℕ) → (0 < length text → length text < 11 → all_ascii_digits text ≡ true → digits_value 10 text < 2 ^ 32 → ⊥) → u32_of text ≡ None
unfolding u32_of
no_u32 text other = rw (isnt 11 (2 ^ 32) text other) refl

-- the number below 2^32 of some digits
pub u32_by : {E : Type 0} (text : List ℕ) (v : ℕ) (r : Result ℕ E) → 0 < length text → length text < 11 → digits text ≡ Some v → OkIff r (v < 2 ^ 32) v → result_ok r ≡ u32_of text
u32_by text v (Err fault) filled short e fits =
    let d = digits_some text v e in
    sym (no_u32 text (λ few less all small. fits (omega (arith, d.2, small))))
u32_by text v (Ok n) filled short e fits =
    let d = digits_some text v e in
    ap Some (fits.1 ∙ sym d.2) ∙ sym (some_u32 text filled short d.1 (rw d.2 fits.0))

-- the stamp of some digits
pub stamp_by : (text : List ℕ) (v : ℕ) (o : Option ℕ) → 0 < length text → digits text ≡ Some v → SomeIff o (v < 2 ^ 63) v → o ≡ stamp_of text
stamp_by text v None filled e fits =
    let d = digits_some text v e in
    sym (no_stamp text (λ few less all small. fits (omega (arith, d.2, small))))
stamp_by text v (Some n) filled e fits =
    let d = digits_some text v e in
    ap Some (fits.1 ∙ sym d.2) ∙ sym (some_stamp text filled d.0 d.1 (rw d.2 fits.0))

pub no_stamp_by : (text : List ℕ) → digits text ≡ None → stamp_of text ≡ None
no_stamp_by text e = no_stamp text (λ filled short all small. digits_none text e short all)

-- what a value tells, once it is found
pub stamp_is : (name query : List ℕ) (value : Option (List ℕ)) (said : Result (Option ℕ) Fault) → value ≡ value_at name query → stamp_given value ≡ said → stamp_at name query ≡ said
unfolding stamp_at
stamp_is name query value said e is = ap stamp_given (sym e) ∙ is

pub status_is : (name query : List ℕ) (value : Option (List ℕ)) (said : Result (Option Status) Fault) → value ≡ value_at name query → status_given value ≡ said → status_at name query ≡ said
unfolding status_at
status_is name query value said e is = ap status_given (sym e) ∙ is
