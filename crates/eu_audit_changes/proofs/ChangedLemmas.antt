-- What a change of a plain form leaves, field by field
use Rattle.std.proofs.Common.{◌≡◌, ℕ, Bool, false, not, refl}
use Rattle.std.specs.Prelude.{Option, Some, None, is_some}
use Rattle.std.specs.Option.{option_map, option_map_or}
use Rattle.eu_base.specs.declared.instances.Instance.{Instance}
use Rattle.eu_base.specs.declared.statuses.Status.{Status}
use Rattle.eu_model.specs.declared.commands.Reply.TheVariants.{Registered}
use Rattle.eu_model.specs.declared.views.Listed.{Listed}
use Rattle.eu_model.specs.Change.{Change, newer, row_after, joined, up_after, one_more}
use Rattle.eu_model.specs.PlainSteps.{plain_register}

abbrev pub instances : Option Listed → Option Instance
instances held = option_map (λ l. l.instance) held

-- a registration that leaves this instance
abbrev pub registration : Instance → Option Status → ℕ → ℕ → Bool → ℕ → Change Listed
registration i row expected up fresh t = record {
  lease = Some (record { instance = i; times = record { registered = t; updated = t; up = up } });
  row = row;
  expected = expected;
  counted = false;
  reply = Registered fresh;
}

pub registered : (held : Option Listed) (row : Option Status) (expected : ℕ) (n : Instance) (replicated : Bool) (t : ℕ)
    → plain_register held row expected n replicated t
    ≡ registration (joined (instances held) row n replicated) (row_after row (newer (instances held) n).overridden) (one_more (not (is_some held)) expected)
    (up_after (option_map_or (λ l. l.times.up) held 0) (joined (instances held) row n replicated).status t) (not (is_some held)) t
registered None row expected n replicated t = refl
registered (Some l) row expected n replicated t = refl
