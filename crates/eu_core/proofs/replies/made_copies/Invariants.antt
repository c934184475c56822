use Rattle.std.proofs.Common.{◌≡◌}
use Rattle.std.specs.Option.{option_copied, option_map}
use Rattle.eu_model.specs.declared.views.Listed.{Listed}
use Rattle.eu_core.specs.Decided.{lease_left}
use Rattle.eu_core.specs.Stepped.{copies_of}
use Rattle.eu_core.proofs.replies.made_copies.Given as goal

-- the copies so far
abbrev pub invariant-loop-made : goal.invariant-loop-made
invariant-loop-made l = l.copies.items ≡ copies_of l._made (option_map (λ (x : Listed). x.instance) (lease_left l.change (option_copied l.held)))
