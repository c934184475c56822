-- What is judged of a change is judged of a step
use Rattle.std.proofs.Common.{◌≡◌, subst}
use Rattle.std.specs.Prelude.{Option, Some, None, Result, Ok, Err, IfOk}
use Rattle.eu_base.specs.declared.names.Key.{Key}
use Rattle.eu_model.specs.declared.commands.Reply.{Reply}
use Rattle.eu_model.specs.declared.views.Listed.{Listed}
use Rattle.eu_model.specs.Change.{Change}
use Rattle.eu_model.specs.Plain.{Plain}
use Rattle.eu_model.specs.PlainSteps.{Becomes}
use Rattle.eu_audit.specs.Verdict.{Judged}

pub rejudged : {S : Type 0} (a b : S → Type 0) → ((new : S) → a new → b new) → ((new : S) → b new → a new) → (next : Option S) → Judged a next → Judged b next
rejudged a b there back None none = λ new led. none new (back new led)
rejudged a b there back (Some new) led = there new led

pub ok_rejudged : {S E : Type 0} (a b : S → Type 0) → ((new : S) → a new → b new) → ((new : S) → b new → a new) → (r : Result (Option S) E) → IfOk r (Judged a) → IfOk r (Judged b)
ok_rejudged a b there back (Ok next) judged = rejudged a b there back next judged
ok_rejudged a b there back (Err e) judged = judged

-- by the change that it is
pub becomes : {E : Type 0} (p : Plain) (k : Key) (c kept : Change Listed) (reply : Reply) (r : Result (Option Plain) E) → c ≡ kept → IfOk r (Judged (Becomes p k c reply)) → IfOk r (Judged (Becomes p k kept reply))
becomes p k c kept reply r e judged = subst (λ x. IfOk r (Judged (Becomes p k x reply))) e judged

-- the same, where nothing refuses it
pub accepted : {E G : Type 0} (p : Plain) (k : Key) (c kept : Change Listed) (reply : Reply) (r : Result (Option Plain) E) → c ≡ kept → G → IfOk r (Judged (Becomes p k c reply))
    → IfOk r (Judged (λ new. G × Becomes p k kept reply new))
accepted {G = G} p k c kept reply r e g judged =
    ok_rejudged (Becomes p k kept reply) (λ new. G × Becomes p k kept reply new) (λ new led. (g, led)) (λ new led. led.1) r (becomes p k c kept reply r e judged)

-- whatever plays no part
pub for_any : {A E : Type 0} (B : Type 0) (P : A → Type 0) (r : Result A E) → IfOk r P → IfOk r (λ x. B → P x)
for_any B P (Ok x) holds = λ b. holds
for_any B P (Err e) holds = holds

pub of_any : {A B E : Type 0} (P : B → A → Type 0) (b : B) (r : Result A E) → IfOk r (λ x. (y : B) → P y x) → IfOk r (P b)
of_any P b (Ok x) holds = holds b
of_any P b (Err e) holds = holds
