-- What a look at a lease gives
use Rattle.std.specs.Prelude.{Option}
use Rattle.std.specs.Option.{option_map}
use Rattle.std.specs.Borrow.{Bor}
use Rattle.eu_base.specs.declared.instances.Instance.{Instance}
use Rattle.eu_model.specs.declared.views.Listed.{Listed}
use Rattle.eu_model.specs.declared.views.Times.{Times}

-- an instance and its moments, as a listed lease
abbrev pub shown : Option (Bor Instance × Times) → Option Listed
shown o = option_map (λ p. record { instance = p.0.now; times = p.1 }) o
