-- An object that is kept as its text
use Rattle.std.proofs.Common.{◌≡◌, ◌≢◌, ℕ, true, List, [], ◌∷◌, ◌++◌, Some, drop, unwrap_or, refl, sym, ap, ◌∙◌}
use Rattle.serde_json.specs.Data.{Data, null, object, Members, no_members, member}
use Rattle.serde_json.specs.Read.{read}
use Rattle.serde_json.specs.Written.{compact_text}
use Rattle.eu_text.specs.declared.cut.Cuts.{Cuts}
use Rattle.eu_text.specs.Fit.{is_fit}
use Rattle.eu_text.specs.Object.{cut_list, own_names, tree_of_text, IsObjectText}
use Rattle.eu_text.specs.Text.{led, cuts_of}
use Rattle.eu_text.proofs.ReadLemmas.{read_text}
use Rattle.eu_text.proofs.TextLemmas.{text_led}

with_brackets : (ms : Members) → 123 ∷ (drop 1 (led ms) ++ 125 ∷ []) ≡ compact_text (object ms)
with_brackets no_members = refl
with_brackets (member k d ms) = ap (λ s. 123 ∷ drop 1 s) (sym (text_led (member k d ms)))

no_comma : (rest : List ℕ) → [] ≡ 44 ∷ rest → ⊥
no_comma rest e = cc

-- without its first comma and with brackets it is read as the object
pub read_is : (text members : List ℕ) (ms : Members) → text ≡ led ms → ((rest : List ℕ) → text ≡ 44 ∷ rest → members ≡ rest) → (((rest : List ℕ) → text ≢ 44 ∷ rest) → members ≡ text)
    → is_fit (object ms) ≡ true → read (123 ∷ (members ++ 125 ∷ [])) ≡ Some (object ms)
read_is text members no_members is first none fit = ap (λ m. read (123 ∷ (m ++ 125 ∷ []))) (none (λ rest e. absurd (no_comma rest (sym is ∙ e))) ∙ is) ∙ read_text (object no_members) fit
read_is text members (member k d ms) is first none fit =
    ap (λ m. read (123 ∷ (m ++ 125 ∷ []))) (first (drop 1 (led (member k d ms))) is) ∙ ap read (with_brackets (member k d ms)) ∙ read_text (object (member k d ms)) fit

pub tree_is : (text : List ℕ) (ms : Members) → text ≡ led ms → is_fit (object ms) ≡ true → tree_of_text text ≡ object ms
unfolding tree_of_text
tree_is text ms is fit =
    ap (λ s. unwrap_or (read (123 ∷ (drop 1 s ++ 125 ∷ []))) null) is
    ∙ ap (λ t. unwrap_or (read t) null) (with_brackets ms) ∙ ap (λ o. unwrap_or o null) (read_text (object ms) fit)

pub object_text : (text : List ℕ) (cuts : Cuts) (ms : Members) → text ≡ led ms → cut_list cuts ≡ cuts_of own_names ms → is_fit (object ms) ≡ true → IsObjectText text cuts
object_text text cuts ms is at fit = record { members = ms; is = record { is = is; at = at }; fit = fit; reads = tree_is text ms is fit }
