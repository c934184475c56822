-- What is so of an instance that was read
use Rattle.std.proofs.Common.{◌≡◌, ℕ, Bool, true, false, List, [], ◌∷◌, length, Option, Some, None, Result, Ok, Err, cond, codes, nat_lt, option_and_then, unwrap_or, is_some, refl, sym, ap, arith, ◌∙◌, subst, if◌then◌else◌}
use Rattle.std.proofs.lemmas.Bool.Decides.{nat_tests}
use Rattle.serde_json.specs.Data.{unsigned, Data, number, string, object, Members}
use Rattle.serde_json.specs.Find.{get, as_object, as_str}
use Rattle.serde_json.specs.Read.{read}
use Rattle.serde_json.specs.Written.{has_float, members_have_float}
use Rattle.eu_base.specs.declared.faults.Fault.{Fault}
use Rattle.eu_base.specs.declared.faults.Fault.TheVariants.{MissingId, MissingHost, MissingIp, MissingCenter, MissingCenterName, NotJson, NotWhole, TooLong}
use Rattle.eu_base.specs.declared.instances.Instance.{Instance}
use Rattle.eu_base.specs.Gives.{◌>>=◌}
use Rattle.eu_base.specs.Limits.{longest_name}
use Rattle.eu_json.specs.Tree.{but_members, text_at, is_blank}
use Rattle.eu_json.specs.Reading.{address_stands, app_stands, center_stands, digits_within, instance_of, interval_in, interval_within, lease_member, name_of, of_body, of_member, of_object, own_names, secs_digits, secs_in, secs_within, short, stamp_in}
use Rattle.eu_json.proofs.KeptLemmas.{Lacks, buts_other, buts_self, in_order_buts}
use Rattle.eu_json.proofs.MemberLemmas.{whole_buts, whole_get}
use Rattle.eu_text.proofs.FitLemmas.{IsOrdered, MembersOrdered, read_ordered}
use Rattle.eu_json.proofs.OrderLemmas.{in_order_get}

-- an instance whose members but the registry's own are these
pub record IsSaid (i : Instance) (ms : Members) : Type 0 where
  pub rest : i.rest ≡ object ms
  pub lacks : Lacks own_names ms
  pub order : MembersOrdered ms
  pub whole : members_have_float ms ≡ false
  pub host : is_blank (text_at (codes "hostName") (object ms)) ≡ false
  pub address : address_stands (object ms) ≡ Ok tt
  pub center : center_stands (object ms) ≡ Ok tt
  pub id_filled : is_blank i.key.id ≡ false
  pub id_short : short i.key.id ≡ Ok i.key.id
  pub secs : secs_within i.secs ≡ Ok i.secs
  pub interval : interval_within i.interval ≡ i.interval

-- ---- checks that were passed

pub ok_step : {A B : Type 0} (r : Result A Fault) (f : A → Result B Fault) (y : B) → (r >>= f) ≡ Ok y → (x : A) × (r ≡ Ok x) × (f x ≡ Ok y)
ok_step (Ok x) f y is = (x, refl, is)
ok_step (Err e) f y is = absurd cc

abbrev value_or : {A : Type 0} → A → Result A Fault → A
value_or d (Ok x) = x
value_or d (Err e) = d

pub ok_same : {A : Type 0} (x y : A) → ◌≡◌ {A = Result A Fault} (Ok x) (Ok y) → x ≡ y
ok_same x y is = ap (value_or x) is

-- a duration that was read is one
secs_by : (n m : ℕ) → secs_within n ≡ Ok m → secs_within m ≡ Ok m
secs_by n m is = grind (arith, nat_tests, is)

digits_by : (n : Option ℕ) (m : ℕ) → secs_digits n ≡ Ok m → secs_within m ≡ Ok m
digits_by None m is = absurd cc
digits_by (Some n) m is = secs_by n m is

secs_kept : (d : Option Data) (m : ℕ) → secs_in d ≡ Ok m → secs_within m ≡ Ok m
secs_kept (Some (number (unsigned n))) m is = secs_by n m is
secs_kept (Some (string s)) m is = digits_by (digits_within 10 s) m is
secs_kept d m is = grind (arith, is)

-- and so is an interval
interval_by : (n : ℕ) → interval_within (interval_within n) ≡ interval_within n
interval_by n = grind (arith, nat_tests)

interval_kept : (d : Option Data) → interval_within (interval_in d) ≡ interval_in d
interval_kept (Some (number (unsigned n))) = interval_by n
interval_kept d = refl

abbrev pub name_by : List ℕ → List ℕ → Result (List ℕ) Fault
name_by host id =
    if is_blank host then (if is_blank id then Err MissingId else Err MissingHost)
    else if is_blank id then Ok host
    else Ok id

named_by : (host id name : List ℕ) → name_by host id ≡ Ok name → (is_blank host ≡ false) × (is_blank name ≡ false)
named_by [] [] name is = absurd cc
named_by [] (b ∷ id) name is = absurd cc
named_by (h ∷ host) [] name is = (refl, sym (ap is_blank (ok_same (h ∷ host) name is)))
named_by (h ∷ host) (b ∷ id) name is = (refl, sym (ap is_blank (ok_same (b ∷ id) name is)))

short_by : (long : Bool) (name id : List ℕ) → cond long (Err TooLong) (Ok name) ≡ Ok id → name ≡ id
short_by true name id is = absurd cc
short_by false name id is = ok_same name id is

abbrev pub address_by : Option Data → Result (Unit {0}) Fault
address_by d = if is_blank (unwrap_or (option_and_then as_str d) []) then Err MissingIp else Ok tt

abbrev pub center_by : Option Data → Result (Unit {0}) Fault
center_by d =
    if is_some (option_and_then as_object d)
    then (if is_some (option_and_then as_str (option_and_then (get (codes "name")) d)) then Ok tt else Err MissingCenterName)
    else Err MissingCenter

abbrev pub text_by : Option Data → List ℕ
text_by d = unwrap_or (option_and_then as_str d) []

said_of_object : (i : Instance) (app : List ℕ) (moment : ℕ) (ms : Members) → MembersOrdered ms → members_have_float ms ≡ false → of_object app moment (object ms) ≡ Ok i → IsSaid i (but_members own_names ms)
unfolding of_object
said_of_object i app moment ms order whole is =
    let name = ok_step (name_of (object ms)) _ i is in
    let address = ok_step (address_stands (object ms)) _ i name.2 in
    let own = ok_step (app_stands app (object ms)) _ i address.2 in
    let center = ok_step (center_stands (object ms)) _ i own.2 in
    let id = ok_step (short name.0) _ i center.2 in
    let last_dirty = ok_step (stamp_in moment (get (codes "lastDirtyTimestamp") (object ms))) _ i id.2 in
    let secs = ok_step (secs_in (lease_member (codes "durationInSecs") (object ms))) _ i last_dirty.2 in
    let same = ok_same _ i secs.2 in
    let named : name.0 ≡ i.key.id = short_by (nat_lt longest_name (length name.0)) name.0 id.0 id.1 ∙ ap (λ j. j.key.id) same in
    let filled = named_by (text_at (codes "hostName") (object ms)) (text_at (codes "instanceId") (object ms)) name.0 name.1 in
    record {
      rest = sym (ap (λ j. j.rest) same);
      lacks = buts_self own_names ms;
      order = in_order_buts own_names ms order;
      whole = whole_buts own_names ms whole;
      host = ap (λ d. is_blank (text_by d)) (buts_other (codes "hostName") own_names ms refl) ∙ filled.0;
      address = ap address_by (buts_other (codes "ipAddr") own_names ms refl) ∙ address.1;
      center = ap center_by (buts_other (codes "dataCenterInfo") own_names ms refl) ∙ center.1;
      id_filled = ap is_blank (sym named) ∙ filled.1;
      id_short = ap short (sym named) ∙ id.1 ∙ ap Ok (sym (short_by (nat_lt longest_name (length name.0)) name.0 id.0 id.1) ∙ named);
      secs = subst (λ (n : ℕ). secs_within n ≡ Ok n) (ap (λ j. j.secs) same) (secs_kept (lease_member (codes "durationInSecs") (object ms)) secs.0 secs.1);
      interval = subst (λ (n : ℕ). interval_within n ≡ n) (ap (λ j. j.interval) same) (interval_kept (lease_member (codes "renewalIntervalInSecs") (object ms)));
    }

-- ---- from the text

said_of_member : (i : Instance) (app : List ℕ) (moment : ℕ) (body d : Data) (fraction : Bool) → fraction ≡ has_float body → IsOrdered body → get (codes "instance") body ≡ Some d
    → cond (is_some (as_object d)) (cond fraction (Err NotWhole) (of_object app moment d)) (Err NotJson) ≡ Ok i → (ms : Members) × IsSaid i ms
said_of_member i app moment body (object ms) false whole order got is =
    (but_members own_names ms, said_of_object i app moment ms (in_order_get (codes "instance") body (object ms) order got) (whole_get (codes "instance") body (object ms) (sym whole) got) is)
said_of_member i app moment body d fraction whole order got is = absurd cc

said_of_found : (i : Instance) (app : List ℕ) (moment : ℕ) (body : Data) (d : Option Data) → IsOrdered body → get (codes "instance") body ≡ d
    → of_member app moment (has_float body) d ≡ Ok i → (ms : Members) × IsSaid i ms
said_of_found i app moment body None order got is = absurd cc
said_of_found i app moment body (Some d) order got is = said_of_member i app moment body d (has_float body) refl order got is

said_of_body : (i : Instance) (app : List ℕ) (moment : ℕ) (text : List ℕ) (body : Option Data) → read text ≡ body → of_body app moment body ≡ Ok i → (ms : Members) × IsSaid i ms
said_of_body i app moment text None got is = absurd cc
said_of_body i app moment text (Some body) got is = said_of_found i app moment body (get (codes "instance") body) (read_ordered text body got) refl is

pub said : (i : Instance) (app : List ℕ) (moment : ℕ) (text : List ℕ) → instance_of app moment text ≡ Ok i → (ms : Members) × IsSaid i ms
said i app moment text is = said_of_body i app moment text (read text) refl is
