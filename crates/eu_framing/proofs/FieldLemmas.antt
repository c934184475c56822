-- Laws of the fields of a head.
use Rattle.std.proofs.Common.{subst, ◌≡◌, ℕ, Bool, true, false, List, [], ◌∷◌, ◌++◌, refl, sym, ap, ◌∙◌, append-nil, map}
use Rattle.std.specs.Prelude.{Vec}
use Rattle.std.specs.declared.alloc.Global.{Global}
use Rattle.std.specs.List.{list_all, list_any}
use Rattle.std.proofs.lemmas.List.Folds.{list_all-append, list_any-append}
use Rattle.std.proofs.Common.{◌||◌, ◌&&◌}
use Rattle.std.proofs.lemmas.List.{map-append}
use Rattle.std.proofs.lemmas.List.Elements.{filter-append}
use Rattle.eu_framing.specs.declared.fields.Said.{Said}
use Rattle.eu_framing.specs.declared.fields.Said.TheVariants.{Often}
use Rattle.std.proofs.Common.{codes, Ok, Err}
use Rattle.eu_base.specs.declared.faults.Fault.{Fault}
use Rattle.eu_base.specs.declared.faults.Fault.TheVariants as faults
use Rattle.eu_framing.specs.declared.fields.Framing.{Framing}
use Rattle.eu_framing.specs.Fields.{Header, values_of, is_same_text, framing_of, has_host, stated_by, is_plain, within_limit}
use Rattle.eu_framing.specs.Said.{IsSaid}

pub values_none : (name : List ℕ) → values_of name [] ≡ []
unfolding values_of
values_none name = refl

pub values_more : (name : List ℕ) (hs : List Header) (h : Header) → is_same_text h.0 name ≡ true → values_of name (hs ++ h ∷ []) ≡ values_of name hs ++ h.1 ∷ []
unfolding values_of
values_more name hs h same = rw filter-append (rw map-append (rw same refl))

pub values_other : (name : List ℕ) (hs : List Header) (h : Header) → is_same_text h.0 name ≡ false → values_of name (hs ++ h ∷ []) ≡ values_of name hs
unfolding values_of
values_other name hs h other = rw filter-append (rw map-append (rw other (append-nil _)))

pub or_false : (b : Bool) → (b || false) ≡ b
or_false true = refl
or_false false = refl

and_true : (b : Bool) → (b && true) ≡ b
and_true true = refl
and_true false = refl

-- one more field, for a test of all or of some values of a name
pub any_yes : (p : List ℕ → Bool) (name : List ℕ) (hs more : List Header) (h : Header) → more ≡ hs ++ h ∷ [] → is_same_text h.0 name ≡ true → (list_any p (values_of name hs) || p h.1) ≡ list_any p (values_of name more)
any_yes p name hs more h e same = sym (ap (λ (t : List Header). list_any p (values_of name t)) e ∙ ap (list_any p) (values_more name hs h same) ∙ list_any-append p (values_of name hs) (h.1 ∷ []) ∙ ap (λ (b : Bool). list_any p (values_of name hs) || b) (or_false (p h.1)))

pub all_yes : (p : List ℕ → Bool) (name : List ℕ) (hs more : List Header) (h : Header) → more ≡ hs ++ h ∷ [] → is_same_text h.0 name ≡ true → (list_all p (values_of name hs) && p h.1) ≡ list_all p (values_of name more)
all_yes p name hs more h e same = sym (ap (λ (t : List Header). list_all p (values_of name t)) e ∙ ap (list_all p) (values_more name hs h same) ∙ list_all-append p (values_of name hs) (h.1 ∷ []) ∙ ap (λ (b : Bool). list_all p (values_of name hs) && b) (and_true (p h.1)))

pub any_none : (p : List ℕ → Bool) (name : List ℕ) → false ≡ list_any p (values_of name [])
any_none p name = sym (ap (list_any p) (values_none name))

pub all_none : (p : List ℕ → Bool) (name : List ℕ) → true ≡ list_all p (values_of name [])
all_none p name = sym (ap (list_all p) (values_none name))

pub values_same : {A : Type 0} (f : List (List ℕ) → A) (name : List ℕ) (hs more : List Header) (h : Header) → more ≡ hs ++ h ∷ [] → is_same_text h.0 name ≡ false → f (values_of name hs) ≡ f (values_of name more)
values_same f name hs more h e other = ap f (sym (ap (values_of name) e ∙ values_other name hs h other))

values_on : (name : List ℕ) (hs : List Header) (h : Header) → values_of name (hs ++ h ∷ []) ≡ values_of name hs ++ values_of name (h ∷ [])
unfolding values_of
values_on name hs h = rw filter-append (rw map-append refl)

-- one more field, whose value is one more where it has the name
pub found_more : (name : List ℕ) (hs more : List Header) (h : Header) (was now : List (Vec ℕ Global)) → more ≡ hs ++ h ∷ []
    → map (λ v. v.items) now ≡ map (λ v. v.items) was ++ values_of name (h ∷ []) → map (λ v. v.items) was ≡ values_of name hs → map (λ v. v.items) now ≡ values_of name more
found_more name hs more h was now e added found =
    added ∙ ap (λ (vs : List (List ℕ)). vs ++ values_of name (h ∷ [])) found ∙ sym (ap (values_of name) e ∙ values_on name hs h)

pub twice : (a : List ℕ) (before : List (List ℕ)) → ((b : List ℕ) → before ≡ b ∷ [] → (x : List ℕ) × (y : List ℕ) × (rest : List (List ℕ)) × (before ++ a ∷ [] ≡ x ∷ y ∷ rest))
twice a before b e = (b, a, [], ap (λ (t : List (List ℕ)). t ++ a ∷ []) e)

pub thrice : (a : List ℕ) (before : List (List ℕ)) → IsSaid Often before → IsSaid Often (before ++ a ∷ [])
thrice a before x = (x.0, x.1, x.2 ++ a ∷ [], ap (λ (t : List (List ℕ)). t ++ a ∷ []) x.3)

pub said_yes : (name : List ℕ) (hs more : List Header) (h : Header) (was now : Said) → more ≡ hs ++ h ∷ [] → is_same_text h.0 name ≡ true → ((before : List (List ℕ)) → IsSaid was before → IsSaid now (before ++ h.1 ∷ [])) → IsSaid was (values_of name hs) → IsSaid now (values_of name more)
said_yes name hs more h was now e same step said = subst (λ (v : List (List ℕ)). IsSaid now v) (sym (ap (values_of name) e ∙ values_more name hs h same)) (step (values_of name hs) said)

pub said_no : (name : List ℕ) (hs more : List Header) (h : Header) (was : Said) → more ≡ hs ++ h ∷ [] → is_same_text h.0 name ≡ false → IsSaid was (values_of name hs) → IsSaid was (values_of name more)
said_no name hs more h was e other said = subst (λ (v : List (List ℕ)). IsSaid was v) (sym (ap (values_of name) e ∙ values_other name hs h other)) said

abbrev hosts : List Header → List (List ℕ)
hosts hs = values_of (codes "host") hs

abbrev lengths : List Header → List (List ℕ)
lengths hs = values_of (codes "content-length") hs

abbrev codings : List Header → List (List ℕ)
codings hs = values_of (codes "transfer-encoding") hs

abbrev encodings : List Header → List (List ℕ)
encodings hs = values_of (codes "content-encoding") hs

pub framing_no_host : (minor : ℕ) (hs : List Header) → has_host minor (hosts hs) ≡ false → Err faults.BadHead ≡ framing_of minor hs
unfolding framing_of
framing_no_host minor hs q = rw q refl

pub framing_bad : (minor : ℕ) (hs : List Header) (f : Fault) → has_host minor (hosts hs) ≡ true → Err f ≡ stated_by minor (lengths hs) (codings hs) → Err f ≡ framing_of minor hs
unfolding framing_of
framing_bad minor hs f q bad = rw (q, ← bad) refl

pub framing_coded : (minor : ℕ) (hs : List Header) (r : Framing) → has_host minor (hosts hs) ≡ true → Ok r ≡ stated_by minor (lengths hs) (codings hs) → is_plain (encodings hs) ≡ false → Err faults.BadEncoding ≡ framing_of minor hs
unfolding framing_of
framing_coded minor hs r q good other = rw (q, ← good, other) refl

pub framing_good : (minor : ℕ) (hs : List Header) (r : Framing) → has_host minor (hosts hs) ≡ true → Ok r ≡ stated_by minor (lengths hs) (codings hs) → is_plain (encodings hs) ≡ true → within_limit r ≡ framing_of minor hs
unfolding framing_of
framing_good minor hs r q good plain = rw (q, ← good, plain) refl
