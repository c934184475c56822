-- The text of what is put in between pieces
use Rattle.std.proofs.Common.{◌≡◌, ℕ, List, [], ◌∷◌, ◌++◌, length, Ordering, Less, Equal, Greater, nat_cmp, refl, sym, ap, ap₂, ◌∙◌, subst, is_eq, bytes_eq, append_assoc}
use Rattle.std.specs.Prelude.{⊤, true, false}
use Rattle.std.specs.Ordering.{match_ordering}
use Rattle.std.specs.Cmp.Lexicographic.{slice_cmp}
use Rattle.std.proofs.lemmas.Cmp.{nat_list_cmp_total}
use Rattle.std.proofs.lemmas.Map.Text.{is_eq-slice_cmp}
use Rattle.std.proofs.lemmas.Slice.Eq.{bytes_eq-Decides}
use Rattle.json.specs.Print.{quoted}
use Rattle.serde_json.specs.Data.{Data, Members, no_members, member, put}
use Rattle.serde_json.specs.Written.{compact_text, members_text}
use Rattle.eu_text.specs.Text.{joined, led_member, led, before, named, behind, names, ComesBefore, IsAscending, put_all, merged}

-- ---- a cut

cut_step : (o : Ordering) (l : List ℕ) (d : Data) (ms b n f : Members) → joined b (joined n f) ≡ ms
    → joined (match_ordering o no_members no_members (member l d b)) (joined (match_ordering o no_members (member l d no_members) n) (match_ordering o (member l d ms) ms f)) ≡ member l d ms
cut_step Less l d ms b n f is = refl
cut_step Equal l d ms b n f is = refl
cut_step Greater l d ms b n f is = ap (λ (m : Members). member l d m) is

pub cut : (k : List ℕ) (ms : Members) → joined (before k ms) (joined (named k ms) (behind k ms)) ≡ ms
cut k no_members = refl
cut k (member l d ms) = cut_step (slice_cmp nat_cmp k l) l d ms (before k ms) (named k ms) (behind k ms) (cut k ms)

pub led_joined : (a b : Members) → led (joined a b) ≡ led a ++ led b
led_joined no_members b = refl
led_joined (member l d a) b = ap (λ s. led_member l d ++ s) (led_joined a b) ∙ sym (append_assoc (led_member l d) (led a) (led b))

pub led_cut : (k : List ℕ) (ms : Members) → led (before k ms) ++ (led (named k ms) ++ led (behind k ms)) ≡ led ms
led_cut k ms =
    ap (λ s. led (before k ms) ++ s) (sym (led_joined (named k ms) (behind k ms)))
    ∙ sym (led_joined (before k ms) (joined (named k ms) (behind k ms))) ∙ ap led (cut k ms)

-- ---- a member that is put in

pub equal_names : (k l : List ℕ) → slice_cmp nat_cmp k l ≡ Equal → k ≡ l
equal_names k l is = (bytes_eq-Decides k l).0 (sym (is_eq-slice_cmp k l) ∙ ap is_eq is)

put_step : (o : Ordering) (k l : List ℕ) (d e : Data) (ms p b f : Members) → (o ≡ Equal → k ≡ l) → p ≡ joined b (member k d f)
    → match_ordering o (member k d (member l e ms)) (member l d ms) (member l e p)
    ≡ joined (match_ordering o no_members no_members (member l e b)) (member k d (match_ordering o (member l e ms) ms f))
put_step Less k l d e ms p b f same is = refl
put_step Equal k l d e ms p b f same is = ap (λ n. member n d ms) (sym (same refl))
put_step Greater k l d e ms p b f same is = ap (λ (m : Members). member l e m) is

-- it goes between those before its name and those behind, in the place of one that has it
pub put_cut : (k : List ℕ) (d : Data) (ms : Members) → put k d ms ≡ joined (before k ms) (member k d (behind k ms))
put_cut k d no_members = refl
put_cut k d (member l e ms) =
    put_step (slice_cmp nat_cmp k l) k l d e ms (put k d ms) (before k ms) (behind k ms) (equal_names k l) (put_cut k d ms)

-- ---- members that are put in, one behind another

after : (k j l : List ℕ) → slice_cmp nat_cmp k j ≡ Less → slice_cmp nat_cmp j l ≡ Less → slice_cmp nat_cmp k l ≡ Less
after k j l first second = nat_list_cmp_total.trans k j l first second

tied : (k j l : List ℕ) → slice_cmp nat_cmp k j ≡ Less → slice_cmp nat_cmp j l ≡ Equal → slice_cmp nat_cmp k l ≡ Less
tied k j l less is = subst (λ n. slice_cmp nat_cmp k n ≡ Less) (equal_names j l is) less

before_step : (o : Ordering) (k j l : List ℕ) (d e : Data) (ms p : Members) → slice_cmp nat_cmp k j ≡ Less → slice_cmp nat_cmp j l ≡ o → before k p ≡ before k ms
    → before k (match_ordering o (member j d (member l e ms)) (member l d ms) (member l e p)) ≡ before k (member l e ms)
before_step Less k j l d e ms p less order is = rw (less, after k j l less order) refl
before_step Equal k j l d e ms p less order is = rw (tied k j l less order) refl
before_step Greater k j l d e ms p less order is = ap (λ b. match_ordering (slice_cmp nat_cmp k l) no_members no_members (member l e b)) is

-- what is put behind a name leaves what stands before it
before_put : (k j : List ℕ) (d : Data) (ms : Members) → slice_cmp nat_cmp k j ≡ Less → before k (put j d ms) ≡ before k ms
before_put k j d no_members less = rw less refl
before_put k j d (member l e ms) less = before_step (slice_cmp nat_cmp j l) k j l d e ms (put j d ms) less refl (before_put k j d ms less)

later_step : (q : Ordering) (j l : List ℕ) (d e : Data) (ms b r : Members) → slice_cmp nat_cmp j l ≡ Greater → b ≡ put j d r
    → match_ordering q (member l e (put j d ms)) (put j d ms) b ≡ put j d (match_ordering q (member l e ms) ms r)
later_step Less j l d e ms b r order is = rw order refl
later_step Equal j l d e ms b r order is = refl
later_step Greater j l d e ms b r order is = is

behind_step : (o : Ordering) (k j l : List ℕ) (d e : Data) (ms : Members) → slice_cmp nat_cmp k j ≡ Less → slice_cmp nat_cmp j l ≡ o → behind k (put j d ms) ≡ put j d (behind k ms)
    → behind k (match_ordering o (member j d (member l e ms)) (member l d ms) (member l e (put j d ms))) ≡ put j d (behind k (member l e ms))
behind_step Less k j l d e ms less order is = rw (less, after k j l less order, order) refl
behind_step Equal k j l d e ms less order is = rw (tied k j l less order, order) refl
behind_step Greater k j l d e ms less order is = later_step (slice_cmp nat_cmp k l) j l d e ms (behind k (put j d ms)) (behind k ms) order is

-- and is put into what stands behind it
behind_put : (k j : List ℕ) (d : Data) (ms : Members) → slice_cmp nat_cmp k j ≡ Less → behind k (put j d ms) ≡ put j d (behind k ms)
behind_put k j d no_members less = rw less refl
behind_put k j d (member l e ms) less = behind_step (slice_cmp nat_cmp j l) k j l d e ms less refl (behind_put k j d ms less)

before_more : (k j : List ℕ) (ks : List (List ℕ)) → slice_cmp nat_cmp k j ≡ Less → ComesBefore j ks → ComesBefore k ks
before_more k j [] less first = tt
before_more k j (l ∷ ks) less first = after k j l less first

before_all : (k : List ℕ) (os : List (List ℕ × Data)) (ms : Members) → ComesBefore k (names os) → IsAscending (names os) → before k (put_all os ms) ≡ before k ms
before_all k [] ms first order = refl
before_all k (o ∷ os) ms first order = before_put k o.0 o.1 (put_all os ms) first ∙ before_all k os ms (before_more k o.0 (names os) first order.0) order.1

behind_all : (k : List ℕ) (os : List (List ℕ × Data)) (ms : Members) → ComesBefore k (names os) → IsAscending (names os) → behind k (put_all os ms) ≡ put_all os (behind k ms)
behind_all k [] ms first order = refl
behind_all k (o ∷ os) ms first order =
    behind_put k o.0 o.1 (put_all os ms) first ∙ ap (put o.0 o.1) (behind_all k os ms (before_more k o.0 (names os) first order.0) order.1)

-- the first piece, the first member that is put in, and what follows
put_first : (o : List ℕ × Data) (os : List (List ℕ × Data)) (ms : Members) → IsAscending (names (o ∷ os))
    → put_all (o ∷ os) ms ≡ joined (before o.0 ms) (member o.0 o.1 (put_all os (behind o.0 ms)))
put_first o os ms order =
    put_cut o.0 o.1 (put_all os ms)
    ∙ ap₂ (λ b f. joined b (member o.0 o.1 f)) (before_all o.0 os ms order.0 order.1) (behind_all o.0 os ms order.0 order.1)

-- ---- the text

text_member : (k : List ℕ) (d : Data) (s : List ℕ) → 44 ∷ (quoted k ++ 58 ∷ (compact_text d ++ s)) ≡ led_member k d ++ s
text_member k d s = ap (λ t. 44 ∷ t) (sym (append_assoc (quoted k) (58 ∷ compact_text d) s))

text_joined : (a b : Members) → members_text true (joined a b) ≡ led a ++ members_text true b
text_joined no_members b = refl
text_joined (member l d a) b =
    text_member l d (members_text true (joined a b)) ∙ ap (λ s. led_member l d ++ s) (text_joined a b) ∙ sym (append_assoc (led_member l d) (led a) (members_text true b))

pub text_led : (ms : Members) → members_text true ms ≡ led ms ++ 125 ∷ []
text_led no_members = refl
text_led (member l d ms) =
    text_member l d (members_text true ms) ∙ ap (λ s. led_member l d ++ s) (text_led ms) ∙ sym (append_assoc (led_member l d) (led ms) (125 ∷ []))

text_merged : (os : List (List ℕ × Data)) (ms : Members) → IsAscending (names os) → members_text true (put_all os ms) ≡ merged os ms ++ 125 ∷ []
text_merged [] ms order = text_led ms
text_merged (o ∷ os) ms order =
    let p = before o.0 ms in
    let r = behind o.0 ms in
    let m = led_member o.0 o.1 in
    ap (members_text true) (put_first o os ms order)
    ∙ text_joined p (member o.0 o.1 (put_all os r))
    ∙ ap (λ s. led p ++ s) (text_member o.0 o.1 (members_text true (put_all os r)) ∙ ap (λ s. m ++ s) (text_merged os r order.1) ∙ sym (append_assoc m (merged os r) (125 ∷ [])))
    ∙ sym (append_assoc (led p) (m ++ merged os r) (125 ∷ []))

first_step : (o : Ordering) (k l : List ℕ) (d e : Data) (ms rest : Members)
    → members_text true (match_ordering o (member k d (member l e ms)) (member l d ms) (member l e rest)) ≡ 44 ∷ members_text false (match_ordering o (member k d (member l e ms)) (member l d ms) (member l e rest))
first_step Less k l d e ms rest = refl
first_step Equal k l d e ms rest = refl
first_step Greater k l d e ms rest = refl

first_put : (k : List ℕ) (d : Data) (ms : Members) → members_text true (put k d ms) ≡ 44 ∷ members_text false (put k d ms)
first_put k d no_members = refl
first_put k d (member l e ms) = first_step (slice_cmp nat_cmp k l) k l d e ms (put k d ms)

-- the text of an object with members put in: the first comma of the pieces' text stands where the bracket is to stand
pub text_of_object : (o : List ℕ × Data) (os : List (List ℕ × Data)) (ms : Members) → IsAscending (names (o ∷ os))
    → 44 ∷ members_text false (put_all (o ∷ os) ms) ≡ merged (o ∷ os) ms ++ 125 ∷ []
text_of_object o os ms order = sym (first_put o.0 o.1 (put_all os ms)) ∙ text_merged (o ∷ os) ms order
