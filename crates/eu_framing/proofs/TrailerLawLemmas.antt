-- A whole trailer has no fault, and the faults of a trailer exclude each other.
use Rattle.std.proofs.Common.{◌≡◌, ℕ, ◌-◌, inl, inr, List, [], length, take, drop, sym, ◌∙◌, subst, arith}
use Rattle.std.proofs.lemmas.List.{take-append-drop}
use Rattle.httparse.specs.Grammar.{print_section, ReadsSection}
use Rattle.eu_base.specs.declared.faults.Fault.{Fault}
use Rattle.eu_framing.specs.Chunks.{trailer_room, HasTrailer, IsTrailerFault}
use Rattle.eu_framing.proofs.HeadLawLemmas.{front_in_window, crowded_section}

pub trailer_is_whole : (room : ℕ) (after rest : List ℕ) (fault : Fault) → HasTrailer room after rest → ¬ (IsTrailerFault room after fault)
trailer_is_whole room after rest fault t (inl (is, inl never)) =
    let n = trailer_room room in
    never (drop n after) t.fields t.last rest (subst (λ (b : List ℕ). ReadsSection b t.fields t.last rest) (sym (take-append-drop n after)) t.reads)
trailer_is_whole room after rest fault t (inl (is, inr many)) = omega (arith, t.few, crowded_section 64 (trailer_room room) after t.fields t.last rest many t.reads)
trailer_is_whole room after rest fault t (inr (inl x)) = x.2 t.fields t.last rest t.reads
trailer_is_whole room after rest fault t (inr (inr x)) =
    let print = print_section t.fields t.last in
    x.2 t.fields t.last (take (trailer_room room - length print) rest) (t.reads.0, front_in_window (trailer_room room) after print rest t.reads.1 t.fits)

pub one_trailer_fault : (room : ℕ) (after : List ℕ) (f g : Fault) → IsTrailerFault room after f → IsTrailerFault room after g → f ≡ g
one_trailer_fault room after f g (inl x) (inl y) = x.0 ∙ sym y.0
one_trailer_fault room after f g (inl x) (inr (inl y)) = x.0 ∙ sym y.0
one_trailer_fault room after f g (inl (is, inl never)) (inr (inr y)) = absurd (never y.3.0 y.3.1 y.3.2 [] y.3.3)
one_trailer_fault room after f g (inl (is, inr many)) (inr (inr y)) = absurd (y.4 many)
one_trailer_fault room after f g (inr (inl x)) (inl y) = x.0 ∙ sym y.0
one_trailer_fault room after f g (inr (inl x)) (inr (inl y)) = x.0 ∙ sym y.0
one_trailer_fault room after f g (inr (inl x)) (inr (inr y)) = absurd (omega (arith, x.1, y.1))
one_trailer_fault room after f g (inr (inr x)) (inl (is, inl never)) = absurd (never x.3.0 x.3.1 x.3.2 [] x.3.3)
one_trailer_fault room after f g (inr (inr x)) (inl (is, inr many)) = absurd (x.4 many)
one_trailer_fault room after f g (inr (inr x)) (inr (inl y)) = absurd (omega (arith, y.1, x.1))
one_trailer_fault room after f g (inr (inr x)) (inr (inr y)) = x.0 ∙ sym y.0
