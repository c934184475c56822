-- No bytes have the fault of a reader.
use Rattle.std.proofs.Common.{◌≡◌, inl, inr, ℕ, Bool, true, false, List, [], ◌∷◌, Result, Ok, Err, nat_eq, nat_le, nat_lt, if◌then◌else◌, ◌==◌, ◌&&◌, codes, ap, refl, sym, ◌∙◌}
use Rattle.std.proofs.lemmas.Bool.{false≢true}
use Rattle.std.specs.Str.Parse.{digits_value}
use Rattle.eu_base.specs.declared.faults.Fault.{Fault}
use Rattle.eu_base.specs.declared.faults.Fault.TheVariants as faults
use Rattle.eu_base.specs.Fault.{fault_number}
use Rattle.eu_framing.specs.declared.fields.Framing.{Framing}
use Rattle.eu_framing.specs.declared.fields.Framing.TheVariants.{NoBody, Sized, Chunked}
use Rattle.eu_framing.specs.Chunks.{max_trailer, IsLineFault, IsDataFault, IsTrailerFault, BreaksChunked}
use Rattle.eu_framing.specs.Fields.{Header, values_of, is_same_text, framing_of, is_length, stated_by, then_encoding, within_limit, max_body, has_host, is_plain}
use Rattle.eu_framing.specs.Message.{BreaksBody, IsHeadFault, IsFault}

-- the fault is another than a reader's
abbrev Differs : Fault → Type 0
Differs fault = ¬ (fault ≡ faults.Read)

pub by_number : (f g : Fault) → f ≡ g → nat_eq (fault_number g) 40 ≡ false → Differs f
by_number f g e other r = false≢true (sym other ∙ ap (λ (h : Fault). nat_eq (fault_number h) 40) (sym e ∙ r))

head_differs : (bytes : List ℕ) (fault : Fault) → IsHeadFault bytes fault → Differs fault
head_differs bytes fault (inl x) = by_number fault faults.HeadTooLong x.0 refl
head_differs bytes fault (inr x) = by_number fault faults.BadHead x.0 refl

-- a result has no fault, or another than a reader's
abbrev number_in : Result Framing Fault → ℕ
number_in (Ok framing) = 0
number_in (Err fault) = fault_number fault

abbrev Framed : Result Framing Fault → Type 0
Framed r = nat_eq (number_in r) 40 ≡ false

pick : (b : Bool) (x y : Result Framing Fault) → Framed x → Framed y → Framed (if b then x else y)
pick true x y p q = p
pick false x y p q = q

stated_differs : (minor : ℕ) (ls cs : List (List ℕ)) → Framed (stated_by minor ls cs)
stated_differs minor [] [] = refl
stated_differs minor (v ∷ []) [] = pick (is_length v) (Ok (Sized (digits_value 10 v))) (Err faults.BadLength) refl refl
stated_differs minor [] (v ∷ []) = pick (is_same_text v (codes "chunked") && (minor == 1)) (Ok Chunked) (Err faults.BadLength) refl refl
stated_differs minor (v ∷ w ∷ vs) cs = refl
stated_differs minor (v ∷ []) (c ∷ cs) = refl
stated_differs minor [] (c ∷ d ∷ cs) = refl

limit_differs : (framing : Framing) → Framed (within_limit framing)
limit_differs NoBody = refl
limit_differs (Sized n) = pick (nat_lt max_body n) _ _ refl refl
limit_differs Chunked = refl

encoding_differs : (codings : List (List ℕ)) (r : Result Framing Fault) → Framed r → Framed (then_encoding codings r)
encoding_differs codings (Err fault) p = p
encoding_differs codings (Ok framing) p = pick (is_plain codings) _ _ (limit_differs framing) refl

framing_differs : (minor : ℕ) (hs : List Header) (fault : Fault) → framing_of minor hs ≡ Err fault → Differs fault
unfolding framing_of
framing_differs minor hs fault e =
    let lengths = values_of (codes "content-length") hs in
    let codings = values_of (codes "transfer-encoding") hs in
    let encodings = values_of (codes "content-encoding") hs in
    let stated = stated_by minor lengths codings in
    let p : Framed (framing_of minor hs) =
    pick (has_host minor (values_of (codes "host") hs)) (then_encoding encodings stated) (Err faults.BadHead) (encoding_differs encodings stated (stated_differs minor lengths codings)) refl in
    by_number fault fault refl (ap (λ (r : Result Framing Fault). nat_eq (number_in r) 40) (sym e) ∙ p)

line_differs : (room : ℕ) (text : List ℕ) (fault : Fault) → IsLineFault room text fault → Differs fault
line_differs room text fault (inl x) = by_number fault faults.BadChunk x.0 refl
line_differs room text fault (inr (inl x)) = by_number fault faults.BadChunk x.0 refl
line_differs room text fault (inr (inr x)) = by_number fault faults.BodyTooLong x.0 refl

data_differs : (room size : ℕ) (after : List ℕ) (fault : Fault) → IsDataFault room size after fault → Differs fault
data_differs room size after fault (inl x) = by_number fault faults.BadChunk x.0 refl
data_differs room size after fault (inr (inl x)) = by_number fault faults.BodyTooLong x.0 refl
data_differs room size after fault (inr (inr x)) = by_number fault faults.BadChunk x.0 refl

either : (b : Bool) (fault : Fault) → fault ≡ (if b then faults.BodyTooLong else faults.BadChunk) → Differs fault
either true fault e = by_number fault faults.BodyTooLong e refl
either false fault e = by_number fault faults.BadChunk e refl

trailer_differs : (room : ℕ) (after : List ℕ) (fault : Fault) → IsTrailerFault room after fault → Differs fault
trailer_differs room after fault (inl x) = by_number fault faults.BadChunk x.0 refl
trailer_differs room after fault (inr (inl x)) = by_number fault faults.BadChunk x.0 refl
trailer_differs room after fault (inr (inr x)) = either (nat_le room max_trailer) fault x.0

chunks_differ : (bytes : List ℕ) (fault : Fault) → BreaksChunked bytes fault → Differs fault
chunks_differ bytes fault (cs, text, leads, inl x) = line_differs _ _ fault x
chunks_differ bytes fault (cs, text, leads, inr (line, after, has, inl x)) = by_number fault faults.BodyTooLong x.0 refl
chunks_differ bytes fault (cs, text, leads, inr (line, after, has, inr (inl x))) = data_differs _ _ after fault x.2
chunks_differ bytes fault (cs, text, leads, inr (line, after, has, inr (inr x))) = trailer_differs _ after fault x.1

body_differs : (framing : Framing) (bytes : List ℕ) (fault : Fault) → BreaksBody framing bytes fault → Differs fault
body_differs NoBody bytes fault x = absurd x
body_differs (Sized n) bytes fault x = by_number fault faults.BadLength x.0 refl
body_differs Chunked bytes fault x = chunks_differ bytes fault x

pub fault_differs : (bytes : List ℕ) (fault : Fault) → IsFault bytes fault → ¬ (fault ≡ faults.Read)
fault_differs bytes fault (inl x) = head_differs bytes fault x
fault_differs bytes fault (inr (h, after, has, inl x)) = framing_differs _ _ fault x
fault_differs bytes fault (inr (h, after, has, inr (framing, is, x))) = body_differs framing after fault x
