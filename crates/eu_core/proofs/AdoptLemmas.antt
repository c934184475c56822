-- An adoption is a registration under the row that is told: what overrode the held instance plays no part
use Rattle.std.proofs.Common.{◌≡◌, ℕ, Bool, true, false, refl}
use Rattle.std.specs.Prelude.{Option, Some, None, cond, nat_lt}
use Rattle.std.specs.Option.{option_or}
use Rattle.eu_base.specs.declared.statuses.Status.{Status}
use Rattle.eu_base.specs.declared.instances.Instance.{Instance}
use Rattle.eu_model.specs.declared.views.Listed.{Listed}
use Rattle.eu_model.specs.Change.{rule, row_of, joined, up_after, register, overridden_by}
use Rattle.eu_model.specs.Machine.{new_record}
use Rattle.eu_model.specs.Plain.{listed}
use Rattle.eu_model.specs.PlainSteps.{raised, plain_change, plain_register, plain_adopt}

-- the instance that a registration leaves, from the one that was chosen, where the id has a row
abbrev settled : Instance → Status → Status → Bool → Instance
settled chosen row held replicated = record chosen { status = rule chosen.status (Some row) (Some held) replicated; overridden = row }

same_joined : (h n : Instance) (row : Status) (replicated : Bool) → joined (Some h) (Some row) n replicated ≡ joined (Some (record h { overridden = row })) (Some row) n replicated
same_joined h n row replicated =
    elim (nat_lt n.last_dirty h.last_dirty) as (λ b.
    settled (cond b (record h { secs = n.secs }) n) row h.status replicated
    ≡ settled (cond b (record h { overridden = row; secs = n.secs }) n) row h.status replicated) [ true ↦ refl | false ↦ refl ]

pub adopt_registers : (held : Option Listed) (row : Option Status) (e : ℕ) (n : Instance) (t : ℕ) → plain_register held (option_or (row_of n.overridden) row) e n true t ≡ plain_adopt held row e n t
adopt_registers None row e n t = refl
adopt_registers (Some l) row e n t =
    elim (row_of n.overridden) as (λ o. plain_register (Some l) (option_or o row) e n true t ≡ plain_change (register (Some (overridden_by o (raised l))) (option_or o row) e n true t)) [
      | None ↦ refl
      | Some s ↦
          let q = same_joined l.instance n s true in
          λ i. record (plain_register (Some l) (Some s) e n true t) { lease = Some (listed (new_record (q i) (up_after l.times.up (q i).status t) t)) }
    ]
