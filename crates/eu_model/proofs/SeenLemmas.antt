-- What is seen of one lease depends on the plain form alone
use Rattle.std.proofs.Common.{◌≡◌, ℕ, ◌+◌, ◌*◌, Bool, true, false, refl, ap, ◌∙◌, arith}
use Rattle.std.specs.Prelude.{cond, Option, Some, None, nat_lt, ◌&&◌}
use Rattle.std.specs.Option.{option_map}
use Rattle.std.specs.FinMap.{get}
use Rattle.eu_base.specs.declared.names.Key.{Key}
use Rattle.eu_model.specs.Machine.{Record, Kind, newest, duration, durations, is_expired, Machine, permits, seen}
use Rattle.eu_model.specs.Machine.Kind.{Fresh, Renewed}
use Rattle.eu_model.specs.Plain.{plain, listed, last_update}
use Rattle.eu_model.specs.View.{one}
use Rattle.eu_model.specs.PlainSteps.{plain_expired, plain_seen, plain_one}
use Rattle.eu_model.proofs.ChangedLemmas.{held_of}

deadline_of : (kind : Kind) (at d : ℕ) → at + durations kind * d ≡ last_update kind at d + d
deadline_of Fresh at d = omega arith
deadline_of Renewed at d = omega arith

pub expired-kept : (r : Record) (t extra : ℕ) → is_expired r t extra ≡ plain_expired (listed r) t extra
expired-kept r t extra = ap (λ n. nat_lt (n + extra) t) (deadline_of (newest r.touches).kind (newest r.touches).at (duration r.instance))

seen-kept : (permitted : Bool) (t : ℕ) (held : Option Record) → option_map listed (seen permitted t held) ≡ plain_seen permitted t (option_map listed held)
seen-kept permitted t None = refl
seen-kept permitted t (Some r) =
    elim (permitted && is_expired r t 0) as (λ b. option_map listed (cond b None (Some r)) ≡ cond b None (Some (listed r))) [ true ↦ refl | false ↦ refl ]
    ∙ ap (λ b. cond (permitted && b) None (Some (listed r))) (expired-kept r t 0)

pub one-kept : (s : Machine) (k : Key) (t : ℕ) → one s k t ≡ plain_one (plain s) k t
one-kept s k t = seen-kept (permits s) t (get s.leases k) ∙ ap (plain_seen (permits s) t) (held_of s k)
