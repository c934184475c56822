-- What an escape has
use Rattle.std.proofs.Common.{◌≡◌, ◌≢◌, ℕ, ◌<◌, Bool, true, false, not, ◌&&◌, cond, eqb, List, [], ◌∷◌, ◌++◌, length, get_or, refl, sym, ap, ◌∙◌, append-nil, codes, arith}
use Rattle.std.specs.List.{All, flat_map, list_all}
use Rattle.std.specs.Char.{encode_utf8}
use Rattle.std.proofs.lemmas.Bool.{eqb-false}
use Rattle.std.proofs.lemmas.List.{get_or_default}
use Rattle.std.proofs.lemmas.List.Elements.{All-nil, All-cons, All-append}
use Rattle.std.proofs.lemmas.Str.{inside_one}
use Rattle.eu_admin.specs.Markup.{IsInert, escaped_char}

-- a character's own bytes are inert where it is
own : (c v : ℕ) → v < 128 → c ≢ v → (k d : ℕ) → k < length (encode_utf8 c) → get_or (encode_utf8 c) k d ≢ v
own c v small other k d lt is =
    let at : get_or (encode_utf8 c) k 0 ≡ v = get_or_default (encode_utf8 c) k 0 d lt ∙ is in
    let under : get_or (encode_utf8 c) k 0 < 128 = omega arith in
    other (inside_one c [] (encode_utf8 c) k (sym (append-nil (encode_utf8 c))) lt under ∙ at)

inert_own : (c : ℕ) → c ≢ 60 → c ≢ 62 → c ≢ 34 → c ≢ 39 → All IsInert (encode_utf8 c)
inert_own c a b d e = λ k x lt.
    (own c 60 (omega arith) a k x lt, own c 62 (omega arith) b k x lt, own c 34 (omega arith) d k x lt, own c 39 (omega arith) e k x lt)

either : (b : Bool) (xs ys : List ℕ) → All IsInert xs → (b ≡ false → All IsInert ys) → All IsInert (cond b xs ys)
either true xs ys p q = p
either false xs ys p q = q refl

-- a byte that is none of the four, as a test that computes
is_inert : ℕ → Bool
is_inert b = not (eqb b 60) && (not (eqb b 62) && (not (eqb b 34) && not (eqb b 39)))

inert_by_test : (b : ℕ) → is_inert b ≡ true → IsInert b
unfolding is_inert
inert_by_test b holds = (
  (λ is. let t : is_inert 60 ≡ true = ap is_inert (sym is) ∙ holds in cc),
  (λ is. let t : is_inert 62 ≡ true = ap is_inert (sym is) ∙ holds in cc),
  (λ is. let t : is_inert 34 ≡ true = ap is_inert (sym is) ∙ holds in cc),
  (λ is. let t : is_inert 39 ≡ true = ap is_inert (sym is) ∙ holds in cc),
)

and_left : (a b : Bool) → a && b ≡ true → a ≡ true
and_left true b h = refl
and_left false b h = cc

and_right : (a b : Bool) → a && b ≡ true → b ≡ true
and_right true b h = h
and_right false b h = cc

literal : (bs : List ℕ) → list_all is_inert bs ≡ true → All IsInert bs
literal [] holds = All-nil IsInert
literal (b ∷ bs) holds =
    All-cons IsInert b bs (inert_by_test b (and_left (is_inert b) (list_all is_inert bs) holds)) (literal bs (and_right (is_inert b) (list_all is_inert bs) holds))

inert_char : (c : ℕ) → All IsInert (escaped_char c)
unfolding is_inert
inert_char c =
    either (eqb c 38) (codes "&amp;") _ (literal (codes "&amp;") refl) (λ a.
    either (eqb c 60) (codes "&lt;") _ (literal (codes "&lt;") refl) (λ b.
    either (eqb c 62) (codes "&gt;") _ (literal (codes "&gt;") refl) (λ d.
    either (eqb c 34) (codes "&quot;") _ (literal (codes "&quot;") refl) (λ e.
    either (eqb c 39) (codes "&#39;") _ (literal (codes "&#39;") refl) (λ f.
    inert_own c (eqb-false c 60 b) (eqb-false c 62 d) (eqb-false c 34 e) (eqb-false c 39 f))))))

pub inert_all : (cs : List ℕ) → All IsInert (flat_map escaped_char cs)
inert_all [] = All-nil IsInert
inert_all (c ∷ cs) = All-append IsInert (escaped_char c) (flat_map escaped_char cs) (inert_char c) (inert_all cs)
