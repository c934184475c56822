-- The definition of the next request gives one answer.
use Rattle.std.proofs.Common.{◌≡◌, ℕ, inl, inr, List, length, Result, Ok, Err, sym, ap, ◌∙◌, length-append, arith}
use Rattle.httparse.proofs.GrammarLemmas.{request_unique}
use Rattle.httparse.specs.Grammar.{RequestHead}
use Rattle.eu_base.specs.declared.faults.Fault.{Fault}
use Rattle.eu_framing.specs.declared.fields.Framing.{Framing}
use Rattle.eu_framing.specs.declared.fields.Framing.TheVariants.{NoBody, Sized, Chunked}
use Rattle.eu_framing.specs.Message.{framed, HasHead, ReadsBody, BreaksBody, BreaksMessage, IsFault}
use Rattle.eu_framing.specs.Law.{OneMessage, WholeIsFaultless, EndIsAlone, CutHasNone, OneFault}
use Rattle.eu_framing.proofs.HeadLawLemmas.{head_is_whole, end_has_no_head, end_has_no_head_fault}
use Rattle.eu_framing.proofs.ChunkLawLemmas.{same_front, one_chunked, chunked_is_whole, one_chunked_fault}

-- the framing of a head, or the fault of its fields, is one
same_ok : (a b : Framing) → ◌≡◌ {A = Result Framing Fault} (Ok a) (Ok b) → a ≡ b
same_ok a b e = cc

same_err : (f g : Fault) → ◌≡◌ {A = Result Framing Fault} (Err f) (Err g) → f ≡ g
same_err f g e = cc

not_both : (framing : Framing) (fault : Fault) → ◌≡◌ {A = Result Framing Fault} (Ok framing) (Err fault) → ⊥
not_both framing fault e = cc

same_head : (bytes : List ℕ) (h k : RequestHead) (after after' : List ℕ) → HasHead bytes h after → HasHead bytes k after' → (h ≡ k) × (after ≡ after')
same_head bytes h k after after' has has' = request_unique bytes h k after after' has.reads has'.reads

-- Bodies.

one_body : (framing : Framing) (bytes body body' rest rest' : List ℕ) → ReadsBody framing bytes body rest → ReadsBody framing bytes body' rest' → (body ≡ body') × (rest ≡ rest')
one_body NoBody bytes body body' rest rest' x y = (x.0 ∙ sym y.0, x.1 ∙ sym y.1)
one_body (Sized n) bytes body body' rest rest' x y = same_front body body' rest rest' (x.0 ∙ sym y.0) (sym x.1 ∙ y.1)
one_body Chunked bytes body body' rest rest' x y = one_chunked bytes body body' rest rest' x y

body_is_whole : (framing : Framing) (bytes body rest : List ℕ) (fault : Fault) → ReadsBody framing bytes body rest → ¬ (BreaksBody framing bytes fault)
body_is_whole NoBody bytes body rest fault x bad = bad
body_is_whole (Sized n) bytes body rest fault x bad = omega (arith, bad.1, x.0, ap length x.1, length-append body rest)
body_is_whole Chunked bytes body rest fault x bad = chunked_is_whole bytes body rest fault x bad

one_body_fault : (framing : Framing) (after : List ℕ) (f g : Fault) → BreaksBody framing after f → BreaksBody framing after g → f ≡ g
one_body_fault NoBody after f g x y = absurd x
one_body_fault (Sized n) after f g x y = x.0 ∙ sym y.0
one_body_fault Chunked after f g x y = one_chunked_fault after f g x y

-- Requests.

pub one_message : OneMessage
one_message bytes m n rest rest' (after, head, framing, framed_is, body) (after', head', framing', framed_is', body') =
    let heads = same_head bytes m.head n.head after after' head head' in
    let framings : framing ≡ framing' = same_ok framing framing' (sym framed_is ∙ ap framed heads.0 ∙ framed_is') in
    let bodies = one_body framing' after' m.body n.body rest rest' (rw (heads.1, framings) at body) body' in
    (heads.0, bodies.0, bodies.1)

pub whole_is_faultless : WholeIsFaultless
whole_is_faultless bytes m rest fault (after, head, framing, framed_is, body) (inl bad) = head_is_whole bytes m.head after fault head bad
whole_is_faultless bytes m rest fault (after, head, framing, framed_is, body) (inr (h, after', head', inl bad)) =
    let heads = same_head bytes m.head h after after' head head' in
    not_both framing fault (sym framed_is ∙ ap framed heads.0 ∙ bad)
whole_is_faultless bytes m rest fault (after, head, framing, framed_is, body) (inr (h, after', head', inr (framing', framed_is', bad))) =
    let heads = same_head bytes m.head h after after' head head' in
    let framings : framing ≡ framing' = same_ok framing framing' (sym framed_is ∙ ap framed heads.0 ∙ framed_is') in
    body_is_whole framing' after' m.body rest fault (rw (heads.1, framings) at body) bad

pub end_is_alone : EndIsAlone
end_is_alone bytes end = (λ m rest reads. end_has_no_head bytes m.head reads.0 end reads.1, no_fault)
  where
    no_fault : (fault : Fault) → ¬ (IsFault bytes fault)
    no_fault fault (inl bad) = end_has_no_head_fault bytes fault end bad
    no_fault fault (inr (h, after, head, bad)) = end_has_no_head bytes h after end head

pub cut_has_none : CutHasNone
cut_has_none bytes (inl ends) m rest reads = (end_is_alone bytes ends).0 m rest reads
cut_has_none bytes (inr (fault, bad)) m rest reads = whole_is_faultless bytes m rest fault reads bad

one_break : (bytes : List ℕ) (f g : Fault) → BreaksMessage bytes f → BreaksMessage bytes g → f ≡ g
one_break bytes f g (h, after, head, inl bad) (k, after', head', inl bad') =
    same_err f g (sym bad ∙ ap framed (same_head bytes h k after after' head head').0 ∙ bad')
one_break bytes f g (h, after, head, inl bad) (k, after', head', inr (framing, framed_is, bad')) =
    absurd (not_both framing f (sym framed_is ∙ sym (ap framed (same_head bytes h k after after' head head').0) ∙ bad))
one_break bytes f g (h, after, head, inr (framing, framed_is, bad)) (k, after', head', inl bad') =
    absurd (not_both framing g (sym framed_is ∙ ap framed (same_head bytes h k after after' head head').0 ∙ bad'))
one_break bytes f g (h, after, head, inr (framing, framed_is, bad)) (k, after', head', inr (framing', framed_is', bad')) =
    let heads = same_head bytes h k after after' head head' in
    let framings : framing ≡ framing' = same_ok framing framing' (sym framed_is ∙ ap framed heads.0 ∙ framed_is') in
    one_body_fault framing' after' f g (rw (heads.1, framings) at bad) bad'

pub one_fault : OneFault
one_fault bytes f g (inl x) (inl y) = inr (x, y)
one_fault bytes f g (inl x) (inr y) = absurd (head_is_whole bytes y.0 y.1 f y.2 x)
one_fault bytes f g (inr x) (inl y) = absurd (head_is_whole bytes x.0 x.1 g x.2 y)
one_fault bytes f g (inr x) (inr y) = inl (one_break bytes f g x y)
