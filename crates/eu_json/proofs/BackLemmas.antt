-- An instance that was read, and is written, is read again as it was
use Rattle.std.proofs.Common.{◌≡◌, ℕ, ◌+◌, ◌%◌, ◌<◌, ◌^◌, ◌++◌, true, false, List, [], ◌∷◌, length, Some, None, Result, Ok, Err, cond, codes, decimal, nat_lt, nat_le, option_and_then, refl, sym, ap, ◌∙◌, arith}
use Rattle.std.specs.List.{AllByRecursion}
use Rattle.std.specs.Char.{is_ascii_digit}
use Rattle.std.specs.Str.{all_ascii_digits, str_to_ascii_uppercase}
use Rattle.std.proofs.lemmas.Bool.{and_from, and_parts, le-leb, lt-ltb}
use Rattle.std.proofs.lemmas.Fmt.{decimal_is_IsNumeral, decimal_by_steps, length-decimal-le}
use Rattle.std.proofs.lemmas.Slice.Eq.{bytes_eq-Decides}
use Rattle.serde_json.specs.Data.{Data, string, object, Members}
use Rattle.serde_json.specs.Find.{get, get_member}
use Rattle.serde_json.specs.Written.{has_float, members_have_float}
use Rattle.eu_base.specs.Values.{status_name}
use Rattle.eu_base.specs.declared.faults.Fault.{Fault}
use Rattle.eu_base.specs.declared.faults.Fault.TheVariants.{MissingApp, WrongApp}
use Rattle.eu_base.specs.declared.instances.Instance.{Instance}
use Rattle.eu_base.specs.declared.statuses.Status.{Status}
use Rattle.eu_base.specs.declared.statuses.Status.TheVariants.{Up, Down, Starting, OutOfService, Unknown}
use Rattle.eu_base.specs.Gives.{◌>>=◌}
use Rattle.eu_json.specs.Tree.{text_at, is_blank, instance_tree, lease_tree}
use Rattle.eu_json.specs.Reading.{address_stands, alike, app_stands, center_stands, interval_in, first_of, lease_member, name_of, of_member, of_object, overridden_at, own_names, rest_of, secs_in, short, stamp_in, status_in}
use Rattle.eu_json.proofs.KeptLemmas.{Lacks, buts_puts, puts, puts_get, set_last}
use Rattle.eu_json.proofs.SaidLemmas.{IsSaid, address_by, center_by, name_by, text_by}
use Rattle.eu_json.proofs.TreeLemmas.{whole_lease, whole_put}

-- ---- values that are written and read

digit : (d : ℕ) → d < 10 → is_ascii_digit (48 + d) ≡ true
digit d small = rw (le-leb 48 (48 + d) (omega arith), le-leb (48 + d) 57 (omega arith)) refl

digits_more : (s : List ℕ) (d : ℕ) → all_ascii_digits s ≡ true → d < 10 → all_ascii_digits (s ++ (48 + d) ∷ []) ≡ true
digits_more [] d all small = rw (digit d small) refl
digits_more (c ∷ s) d all small =
    let parts = and_parts (is_ascii_digit c) (all_ascii_digits s) all in
    and_from (is_ascii_digit c) (all_ascii_digits (s ++ (48 + d) ∷ [])) parts.0 (digits_more s d parts.1 small)

digits_all : (n : ℕ) → n < 2 ^ 64 → all_ascii_digits (decimal n) ≡ true
digits_all n small = decimal_by_steps (λ m ds. all_ascii_digits ds ≡ true) (λ m less. digits_more [] m refl less) (λ m ds more all. digits_more ds (m % 10) all (omega arith)) n small

pub dirty_back : (moment n : ℕ) → n < 2 ^ 63 → stamp_in moment (Some (string (decimal n))) ≡ Ok n
dirty_back moment n small =
    let wide : n < 2 ^ 64 = omega arith in
    let numeral = decimal_is_IsNumeral n wide in
    let filled : nat_lt 0 (length (decimal n)) ≡ true = lt-ltb 0 (length (decimal n)) numeral.0.0 in
    let few : nat_le (length (decimal n)) 19 ≡ true = le-leb (length (decimal n)) 19 (length-decimal-le 19 n (omega arith) (omega arith) wide) in
    let within : nat_lt n (2 ^ 63) ≡ true = lt-ltb n (2 ^ 63) small in
    rw (filled, few, digits_all n wide, numeral.1, within) refl

pub status_back : (default s : Status) → status_in default (Some (string (status_name s))) ≡ s
status_back default Up = refl
status_back default Down = refl
status_back default Starting = refl
status_back default OutOfService = refl
status_back default Unknown = refl

abbrev app_check : List ℕ → List ℕ → Result (Unit {0}) Fault
app_check text app = cond (is_blank text) (Err MissingApp) (cond (alike text app) (Ok tt) (Err WrongApp))

app_by : (app : List ℕ) → is_blank app ≡ false → app_check app app ≡ Ok tt
app_by app filled =
    let same : alike app app ≡ true = (bytes_eq-Decides (str_to_ascii_uppercase app) (str_to_ascii_uppercase app)).1 refl in
    rw (filled, same) refl

-- ---- the members that are set

abbrev pub sets : Instance → List (List ℕ × Data)
sets i =
    (codes "app", string i.key.app) ∷ (codes "instanceId", string i.key.id) ∷ (codes "lastDirtyTimestamp", string (decimal i.last_dirty))
    ∷ (codes "leaseInfo", lease_tree i None) ∷ (codes "overriddenStatus", string (status_name i.overridden)) ∷ (codes "status", string (status_name i.status)) ∷ []

abbrev pub written : Instance → Members → Members
written i ms = puts (sets i) ms

pub tree_is : (i : Instance) (ms : Members) → i.rest ≡ object ms → instance_tree i None ≡ object (written i ms)
tree_is i ms is = ap (λ d. instance_tree (record i { rest = d }) None) is

got : (q : List ℕ) (i : Instance) (ms : Members) → get_member q (written i ms) ≡ set_last q (sets i) (get_member q ms)
got q i ms = puts_get q (sets i) ms

rest_back : (i : Instance) (ms : Members) → Lacks own_names ms → rest_of (object (written i ms)) ≡ object ms
rest_back i ms lacks = ap object (buts_puts own_names (sets i) ms lacks (refl, (refl, (refl, (refl, (refl, (refl, tt)))))))

whole_puts : (ps : List (List ℕ × Data)) (ms : Members) → members_have_float ms ≡ false → AllByRecursion (λ p. has_float p.1 ≡ false) ps → members_have_float (puts ps ms) ≡ false
whole_puts [] ms whole each = whole
whole_puts (p ∷ ps) ms whole each = whole_put p.0 p.1 (puts ps ms) (whole_puts ps ms whole each.1) each.0

-- ---- the whole

pub step : {A B : Type 0} (r : Result A Fault) (f : A → Result B Fault) (x : A) → r ≡ Ok x → (r >>= f) ≡ f x
step r f x is = ap (λ q. q >>= f) is

names_back : (host id : List ℕ) → is_blank host ≡ false → is_blank id ≡ false → name_by host id ≡ Ok id
names_back host id first second = rw (first, second) refl

name_back : (i : Instance) (ms : Members) → IsSaid i ms → name_of (object (written i ms)) ≡ Ok i.key.id
name_back i ms said =
    let host : text_at (codes "hostName") (object (written i ms)) ≡ text_at (codes "hostName") (object ms) = ap text_by (got (codes "hostName") i ms) in
    let id : text_at (codes "instanceId") (object (written i ms)) ≡ i.key.id = ap text_by (got (codes "instanceId") i ms) in
    (λ t. name_by (host t) (id t)) ∙ names_back _ i.key.id said.host said.id_filled

of_object_back : (i : Instance) (moment : ℕ) (ms : Members) → IsSaid i ms → i.last_dirty < 2 ^ 63 → is_blank i.key.app ≡ false → of_object i.key.app moment (object (written i ms)) ≡ Ok i
unfolding of_object
of_object_back i moment ms said stamp filled =
    let address : address_stands (object (written i ms)) ≡ Ok tt = ap address_by (got (codes "ipAddr") i ms) ∙ said.address in
    let center : center_stands (object (written i ms)) ≡ Ok tt = ap center_by (got (codes "dataCenterInfo") i ms) ∙ said.center in
    let own : app_stands i.key.app (object (written i ms)) ≡ Ok tt =
    ap (λ d. app_check (text_by d) i.key.app) (got (codes "app") i ms) ∙ app_by i.key.app filled in
    let last_dirty : stamp_in moment (get (codes "lastDirtyTimestamp") (object (written i ms))) ≡ Ok i.last_dirty = ap (stamp_in moment) (got (codes "lastDirtyTimestamp") i ms) ∙ dirty_back moment i.last_dirty stamp in
    let secs : secs_in (lease_member (codes "durationInSecs") (object (written i ms))) ≡ Ok i.secs =
    ap (λ d. secs_in (option_and_then (get (codes "durationInSecs")) d)) (got (codes "leaseInfo") i ms) ∙ said.secs in
    let interval : interval_in (lease_member (codes "renewalIntervalInSecs") (object (written i ms))) ≡ i.interval =
    ap (λ d. interval_in (option_and_then (get (codes "renewalIntervalInSecs")) d)) (got (codes "leaseInfo") i ms) ∙ said.interval in
    let status : status_in Up (get (codes "status") (object (written i ms))) ≡ i.status = ap (status_in Up) (got (codes "status") i ms) ∙ status_back Up i.status in
    let overridden : status_in Unknown (overridden_at (object (written i ms))) ≡ i.overridden =
    ap (λ d. status_in Unknown (first_of d (get (codes "overriddenstatus") (object (written i ms))))) (got (codes "overriddenStatus") i ms) ∙ status_back Unknown i.overridden in
    let rest : rest_of (object (written i ms)) ≡ i.rest = rest_back i ms said.lacks ∙ sym said.rest in
    step (name_of (object (written i ms))) _ i.key.id (name_back i ms said)
    ∙ step (address_stands (object (written i ms))) _ tt address
    ∙ step (app_stands i.key.app (object (written i ms))) _ tt own
    ∙ step (center_stands (object (written i ms))) _ tt center
    ∙ step (short i.key.id) _ i.key.id said.id_short
    ∙ step (stamp_in moment (get (codes "lastDirtyTimestamp") (object (written i ms)))) _ i.last_dirty last_dirty
    ∙ step (secs_in (lease_member (codes "durationInSecs") (object (written i ms)))) _ i.secs secs
    ∙ (λ t. Ok (record { key = i.key; status = status t; overridden = overridden t; last_dirty = i.last_dirty; secs = i.secs; interval = interval t; rest = rest t }))

pub whole_back : (i : Instance) (ms : Members) → IsSaid i ms → members_have_float (written i ms) ≡ false
whole_back i ms said = whole_puts (sets i) ms said.whole (refl, (refl, (refl, (whole_lease i None, (refl, (refl, tt))))))

pub instance_back : (i : Instance) (moment : ℕ) (ms : Members) → IsSaid i ms → i.last_dirty < 2 ^ 63 → is_blank i.key.app ≡ false
    → of_member i.key.app moment (has_float (instance_tree i None)) (Some (instance_tree i None)) ≡ Ok i
instance_back i moment ms said stamp filled =
    ap (λ d. of_member i.key.app moment (has_float d) (Some d)) (tree_is i ms said.rest)
    ∙ (rw (whole_back i ms said) (of_object_back i moment ms said stamp filled))
