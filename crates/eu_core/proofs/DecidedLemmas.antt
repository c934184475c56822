-- What is decided is a change of the rule book, and carried out it is a step of the machine
use Rattle.std.proofs.Common.{◌≡◌, ℕ, ◌+◌, ◌≤◌, ◌^◌, Bool, false, true≢false, sym, ap, subst}
use Rattle.std.specs.Prelude.{if◌then◌else◌, Option, None, Ok}
use Rattle.std.specs.FinMap.{FinMap, get}
use Rattle.eu_base.specs.declared.names.Key.{Key}
use Rattle.eu_base.specs.Values.{key_cmp}
use Rattle.eu_model.specs.declared.commands.Command.{Command}
use Rattle.eu_model.specs.declared.views.Listed.{Listed}
use Rattle.eu_model.specs.Answers.{Answers}
use Rattle.eu_model.specs.Change.{Change}
use Rattle.eu_model.specs.PlainSteps.{after}
use Rattle.eu_model.specs.Machine.{with_value}
use Rattle.eu_model.specs.Plain.{Plain}
use Rattle.eu_core.specs.declared.decision.Change.{Change as Decided}
use Rattle.eu_core.specs.declared.decision.Decision.{Decision}
use Rattle.eu_core.specs.declared.decision.LeaseChange.{LeaseChange}
use Rattle.eu_core.specs.declared.decision.LeaseChange.TheVariants.{Stays, Amended, Begun, Ended}
use Rattle.eu_core.specs.Decided.{begins, count_fault, left, IsChange, IsNew, IsReady}

pub in_place-new : (leases : FinMap key_cmp Listed) (k : Key) (x : LeaseChange) → begins x ≡ false → IsNew leases k x
in_place-new leases k Stays e = tt
in_place-new leases k (Amended a) e = tt
in_place-new leases k (Begun by) e = absurd (true≢false e)
in_place-new leases k Ended e = tt

-- ---- a decision that is a change is a step

is_after : (p : Plain) (k : Key) (d : Decision) (c : Change Listed) → IsChange d (get p.leases k) c → left p k d.change ≡ after p k c
is_after p k d c h =
    λ i. record p {
      leases = with_value p.leases k (h.lease i);
      overrides = with_value p.overrides k.id (h.row_is i);
      expected = h.expected_is i;
      since = if h.counted_is i then p.since + 1 else p.since;
    }

pub answered : (p : Plain) (command : Command) (t : ℕ) (k : Key) (d : Decision) (held : Option Listed) (c c' : Change Listed) → held ≡ get p.leases k
    → IsChange d held c → c ≡ c' → Answers p command t (Ok c'.reply) (after p k c') → Answers p command t (Ok d.reply) (left p k d.change)
answered p command t k d held c c' at change same answers =
    let h : IsChange d (get p.leases k) c' = subst (λ o. IsChange d o c') at (subst (λ x. IsChange d held x) same change) in
    subst (λ r. Answers p command t (Ok r) (left p k d.change)) (sym h.reply) (subst (λ q. Answers p command t (Ok c'.reply) q) (sym (is_after p k d c' h)) answers)

-- the same, where a decision was made of what is known
pub answers_at : (p : Plain) (command : Command) (t : ℕ) (k : Key) (d : Decision) (held : Option Listed) (x : ℕ) (change : ℕ → Change Listed) (c : Change Listed)
    → held ≡ get p.leases k → x ≡ p.expected → IsChange d held (change x) → change p.expected ≡ c
    → Answers p command t (Ok c.reply) (after p k c) → Answers p command t (Ok d.reply) (left p k d.change)
answers_at p command t k d held x change c at ex h same answers = answered p command t k d held (change p.expected) c at (subst (λ z. IsChange d held (change z)) ex h) same answers

-- what is decided in place, and counts nothing, can be carried out
pub ready_in_place : (p : Plain) (k : Key) (x : Decided) → begins x.lease ≡ false → x.expected ≤ 2 ^ 40 → count_fault x.counted p.since ≡ None → IsReady p k x
ready_in_place p k x in_place bound countable = record {
  new = in_place-new p.leases k x.lease in_place;
  bound = bound;
  countable = countable;
}

pub uncounted_ready : (b : Bool) (since : ℕ) → b ≡ false → count_fault b since ≡ None
uncounted_ready b since e = ap (λ c. count_fault c since) e
