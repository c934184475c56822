-- Laws of lists and their members.
use Rattle.std.proofs.Common.{◌≡◌, ℕ, Bool, true, false, ◌||◌, ◌==◌, List, [], ◌∷◌, ◌++◌, map, refl, ap, ◌∙◌}
use Rattle.std.proofs.lemmas.Bool.{ne_eqb}
use Rattle.std.specs.List.{list_any, slice_split}
use Rattle.httparse.specs.Ascii.{comma}
use Rattle.httparse.specs.Grammar.{trim_ows}
use Rattle.eu_framing.specs.Fields.{has_member, is_same_text}
use Rattle.eu_framing.specs.Lists.{HasNoComma}
use Rattle.eu_framing.proofs.FieldLemmas.{or_false}

abbrev parts : List ℕ → List (List ℕ)
parts list = slice_split (λ b. b == comma) list

-- a text without a comma is one part
parts_whole : (text : List ℕ) → HasNoComma text → parts text ≡ text ∷ []
parts_whole [] h = refl
parts_whole (x ∷ xs) h =
    let first : (x == comma) ≡ false = ne_eqb x comma h.0 in
    rw (first, parts_whole xs h.1) refl

-- a text and its comma come before the parts of what follows
parts_first : (text more : List ℕ) → HasNoComma text → parts (text ++ comma ∷ more) ≡ text ∷ parts more
parts_first [] more h = refl
parts_first (x ∷ xs) more h =
    let first : (x == comma) ≡ false = ne_eqb x comma h.0 in
    rw (first, parts_first xs more h.1) refl

-- one of the parts is that member
abbrev has_part : List ℕ → List (List ℕ) → Bool
has_part name texts = list_any (λ (m : List ℕ). is_same_text m name) (map trim_ows texts)

has_first : (list text more name : List ℕ) → list ≡ text ++ comma ∷ more → HasNoComma text → has_member list name ≡ (is_same_text (trim_ows text) name || has_member more name)
has_first list text more name e h = ap (λ (t : List ℕ). has_member t name) e ∙ ap (has_part name) (parts_first text more h)

-- the first member is that one
pub has_it_first : (list text more name : List ℕ) → list ≡ text ++ comma ∷ more → HasNoComma text → is_same_text (trim_ows text) name ≡ true → has_member list name ≡ true
has_it_first list text more name e h same = has_first list text more name e h ∙ ap (λ (b : Bool). b || has_member more name) same

-- the first member is another
pub has_it_later : (list text more name : List ℕ) → list ≡ text ++ comma ∷ more → HasNoComma text → is_same_text (trim_ows text) name ≡ false → has_member list name ≡ has_member more name
has_it_later list text more name e h other = has_first list text more name e h ∙ ap (λ (b : Bool). b || has_member more name) other

-- there is one member
pub has_it_alone : (list name : List ℕ) → HasNoComma list → has_member list name ≡ is_same_text (trim_ows list) name
has_it_alone list name h = ap (has_part name) (parts_whole list h) ∙ or_false (is_same_text (trim_ows list) name)
