-- What is decided of a registration is the rule book's change
use Rattle.std.proofs.Common.{◌≡◌, ℕ, Bool, true, false, refl, sym, ap, ◌∙◌, arith, ◌<◌, ◌≤◌}
use Rattle.std.proofs.lemmas.Bool.Decides.{nat_tests}
use Rattle.std.specs.Prelude.{if◌then◌else◌, Option, Some, None, unwrap_or, nat_lt, is_some, not}
use Rattle.std.specs.Option.{option_map, option_map_or}
use Rattle.eu_base.specs.declared.statuses.Status.{Status}
use Rattle.eu_base.specs.declared.instances.Instance.{Instance}
use Rattle.eu_model.specs.declared.views.Listed.{Listed}
use Rattle.eu_model.specs.Change.{rule, is_status, newer, row_after, under_row, up_after}
use Rattle.eu_model.specs.declared.commands.Reply.TheVariants.{Registered}
use Rattle.eu_model.specs.PlainSteps.{plain_register}
use Rattle.eu_core.specs.declared.decision.Decision.{Decision}
use Rattle.eu_core.specs.Decided.{lease_left}
use Rattle.eu_core.specs.Joins.{Joins}

-- a lease that begins, with its instance in these statuses
abbrev pub lease_in : Instance → Status → Status → ℕ → ℕ → Listed
lease_in j status overridden up t = record {
  instance = record j { status = status; overridden = overridden };
  times = record { registered = t; updated = t; up = up_after up status t };
}

-- the lease that a registration leaves, from the instance that was chosen
abbrev pub joined_lease : Instance → Option Status → Option Status → Bool → ℕ → ℕ → Listed
joined_lease j row held replicated up t =
    let row' = row_after row j.overridden in
    lease_in j (rule j.status row' held replicated) (unwrap_or row' j.overridden) up t

-- what is held of a lease, for the rule
abbrev pub held_status : Option Listed → Option Status
held_status held = option_map (λ l. l.instance.status) held

abbrev pub held_up : Option Listed → ℕ
held_up held = option_map_or (λ l. l.times.up) held 0

abbrev pub chosen : Option Listed → Instance → Instance
chosen held n = newer (option_map (λ l. l.instance) held) n

one_lease : (row : Option Status) (j : Instance) (held : Option Status) (replicated : Bool) (up t : ℕ) →
    lease_in j (rule j.status row held replicated) (unwrap_or row j.overridden) up t
    ≡ (let i = under_row row j in let k : Instance = record i { status = rule i.status row held replicated } in record { instance = k; times = record { registered = t; updated = t; up = up_after up k.status t } })
one_lease None j held replicated up t = refl
one_lease (Some row) j held replicated up t = refl

pub lease_joined : (held : Option Listed) (row : Option Status) (n : Instance) (replicated : Bool) (t : ℕ) →
    Some (joined_lease (chosen held n) row (held_status held) replicated (held_up held) t) ≡ (plain_register held row 0 n replicated t).lease
lease_joined None row n replicated t = ap Some (one_lease (row_after row n.overridden) n None replicated 0 t)
lease_joined (Some l) row n replicated t =
    let j = newer (Some l.instance) n in
    ap Some (one_lease (row_after row j.overridden) j (Some l.instance.status) replicated l.times.up t)

pub reply_joined : (held : Option Listed) (row : Option Status) (e : ℕ) (n : Instance) (r : Bool) (t : ℕ) → (plain_register held row e n r t).reply ≡ Registered (not (is_some held))
reply_joined None row e n r t = refl
reply_joined (Some l) row e n r t = refl

pub row_joined : (held : Option Listed) (row : Option Status) (n : Instance) (replicated : Bool) (t : ℕ) →
    row_after row (chosen held n).overridden ≡ (plain_register held row 0 n replicated t).row
row_joined None row n replicated t = refl
row_joined (Some l) row n replicated t = refl

-- from what the calls find: j is the instance that was chosen
module _ (d : Decision) (expected : ℕ) (n j : Instance) (replicated : Bool) (t : ℕ) (held : Option Listed) (x : Listed) (row : Option Status) (status overridden : Status) where
  pub joins_from : lease_left d.change.lease held ≡ Some x → d.change.expected ≡ expected → d.change.counted ≡ false → d.reply ≡ Registered (not (is_some held))
      → j ≡ chosen held n
      → d.change.row ≡ row_after row j.overridden
      → overridden ≡ unwrap_or (row_after row j.overridden) j.overridden
      → status ≡ rule j.status (row_after row j.overridden) (held_status held) replicated
      → x ≡ lease_in j status overridden (held_up held) t
      → Joins d held row expected n replicated t
  joins_from leaves is_expected is_counted is_reply chose is_row is_overridden is_status is_lease = record {
    lease = leaves
        ∙ ap Some (is_lease ∙ (λ i. lease_in j (is_status i) (is_overridden i) (held_up held) t) ∙ ap (λ k. joined_lease k row (held_status held) replicated (held_up held) t) chose)
        ∙ lease_joined held row n replicated t;
    row_is = is_row ∙ ap (λ (k : Instance). row_after row k.overridden) chose ∙ row_joined held row n replicated t;
    expected_is = is_expected;
    counted_is = is_counted;
    reply = is_reply ∙ sym (reply_joined held row 0 n replicated t);
  }

-- the newcomer is taken on a tie
pub chosen_over : (l : Listed) (n : Instance) → l.instance.last_dirty ≤ n.last_dirty → n ≡ chosen (Some l) n
chosen_over l n h =
    let e : nat_lt n.last_dirty l.instance.last_dirty ≡ false = grind (arith, nat_tests) in
    sym (ap (λ b. if b then (let k : Instance = record l.instance { secs = n.secs } in k) else n) e)

pub chosen_under : (l : Listed) (n : Instance) → n.last_dirty < l.instance.last_dirty → (let k : Instance = record l.instance { secs = n.secs } in k) ≡ chosen (Some l) n
chosen_under l n h =
    let e : nat_lt n.last_dirty l.instance.last_dirty ≡ true = grind (arith, nat_tests) in
    sym (ap (λ b. if b then (let k : Instance = record l.instance { secs = n.secs } in k) else n) e)
