-- What is decided of a registration, where its faults are known
use Rattle.std.proofs.Common.{◌≡◌, ℕ, Bool, false, refl, ◌∙◌, subst}
use Rattle.std.specs.Prelude.{Option, Some, None, Result, is_some, not}
use Rattle.eu_base.specs.declared.statuses.Status.{Status}
use Rattle.eu_base.specs.declared.faults.Fault.{Fault}
use Rattle.eu_base.specs.declared.instances.Instance.{Instance}
use Rattle.eu_model.specs.declared.views.Listed.{Listed}
use Rattle.eu_model.specs.declared.commands.Command.{Command}
use Rattle.eu_model.specs.declared.commands.Reply.{Reply}
use Rattle.eu_model.specs.Change.{one_more}
use Rattle.eu_model.specs.Plain.{Plain}
use Rattle.eu_model.specs.Answers.{Answers}
use Rattle.eu_model.specs.PlainSteps.{plain_register}
use Rattle.eu_core.specs.declared.decision.Decision.{Decision}
use Rattle.eu_core.specs.Decided.{IsChange}
use Rattle.eu_core.specs.Joins.{Joins}

-- neither the lease nor the row nor the reply depends on the number expected, and nothing is counted
module _ (row : Option Status) (e : ℕ) (n : Instance) (r : Bool) (t : ℕ) where
  lease_of_any : (held : Option Listed) → (plain_register held row 0 n r t).lease ≡ (plain_register held row e n r t).lease
  lease_of_any None = refl
  lease_of_any (Some l) = refl

  row_of_any : (held : Option Listed) → (plain_register held row 0 n r t).row ≡ (plain_register held row e n r t).row
  row_of_any None = refl
  row_of_any (Some l) = refl

  reply_of_any : (held : Option Listed) → (plain_register held row 0 n r t).reply ≡ (plain_register held row e n r t).reply
  reply_of_any None = refl
  reply_of_any (Some l) = refl

  expected_of : (held : Option Listed) → one_more (not (is_some held)) e ≡ (plain_register held row e n r t).expected
  expected_of None = refl
  expected_of (Some l) = refl

  uncounted_of : (held : Option Listed) → false ≡ (plain_register held row e n r t).counted
  uncounted_of None = refl
  uncounted_of (Some l) = refl

pub joined_is : (d : Decision) (held : Option Listed) (row : Option Status) (e after : ℕ) (n : Instance) (r : Bool) (t : ℕ)
    → Joins d held row after n r t → after ≡ one_more (not (is_some held)) e → IsChange d held (plain_register held row e n r t)
joined_is d held row e after n r t joins is = record {
  lease = joins.lease ∙ lease_of_any row e n r t held;
  row_is = joins.row_is ∙ row_of_any row e n r t held;
  expected_is = joins.expected_is ∙ is ∙ expected_of row e n r t held;
  counted_is = joins.counted_is ∙ uncounted_of row e n r t held;
  reply = joins.reply ∙ reply_of_any row e n r t held;
}

-- ---- an answer of what the fields mean

pub moved : (p q : Plain) (c : Command) (t : ℕ) (r : Result Reply Fault) (new : Plain) → p ≡ q → Answers p c t r new → Answers q c t r new
moved p q c t r new e a = subst (λ x. Answers x c t r new) e a
