-- The end of a minute, an update and a change of the settings depend on the plain form alone
use Rattle.std.proofs.Common.{◌≡◌, ℕ, refl, sym, ap}
use Rattle.std.specs.Prelude.{None, Ok}
use Rattle.eu_base.specs.declared.settings.Config.{Config}
use Rattle.eu_base.specs.Values.{key_cmp}
use Rattle.eu_model.specs.declared.commands.Command.TheVariants.{EndMinute, Update, Reconfigure}
use Rattle.eu_model.specs.declared.commands.Reply.TheVariants.{Done, Last, Expected}
use Rattle.eu_model.specs.Machine.{last, expected_after, Machine}
use Rattle.eu_model.specs.Step.{after_minute, updated, reconfigured}
use Rattle.eu_model.specs.Plain.{Plain, listed, plain}
use Rattle.eu_model.specs.Answers.{Answers}
use Rattle.eu_model.specs.PlainSteps.{plain_after_minute, plain_updated, plain_reconfigured}
use Rattle.eu_model.proofs.MarkLemmas.{since_minute, last_minute}
use Rattle.eu_model.proofs.MapLemmas.{len-map_values}
use Rattle.eu_model.proofs.AnswerLemmas.{IsKept, answered}

pub end_minute_is_kept : IsKept after_minute (λ s. Last (last (after_minute s).marks)) plain_after_minute (λ p. Last p.since)
end_minute_is_kept = record {
  nexts = λ s. let lasts = last_minute s.marks in let sinces = since_minute s.marks in λ i. record (plain_after_minute (plain s)) { last = lasts i; since = sinces i };
  replies = λ s. ap Last (last_minute s.marks);
}

pub end_minute_answers : (t : ℕ) (p : Plain) → Answers p EndMinute t (Ok (Last p.since)) (plain_after_minute p)
end_minute_answers t p = answered EndMinute t _ _ _ _ (λ q. None) end_minute_is_kept (λ s. (refl, refl)) (λ s. refl) p refl

updated-kept : (s : Machine) → updated s ≡ plain_updated (plain s)
updated-kept s = ap (expected_after s.config s.expected) (sym (len-map_values key_cmp listed s.leases))

pub update_is_kept : IsKept (λ s. record s { expected = updated s }) (λ s. Expected (updated s)) (λ p. record p { expected = plain_updated p }) (λ p. Expected (plain_updated p))
update_is_kept = record {
  nexts = λ s. let e = updated-kept s in λ i. record (plain s) { expected = e i };
  replies = λ s. ap Expected (updated-kept s);
}

pub update_answers : (t : ℕ) (p : Plain) → Answers p Update t (Ok (Expected (plain_updated p))) (record p { expected = plain_updated p })
update_answers t p = answered Update t _ _ _ _ (λ q. None) update_is_kept (λ s. (refl, refl)) (λ s. refl) p refl

pub reconfigure_is_kept : (config : Config) → IsKept (λ s. reconfigured s config) (λ s. Done) (λ p. plain_reconfigured p config) (λ p. Done)
reconfigure_is_kept config = record { nexts = λ s. refl; replies = λ s. refl }

pub reconfigure_answers : (config : Config) (t : ℕ) (p : Plain) → Answers p (Reconfigure config) t (Ok Done) (plain_reconfigured p config)
reconfigure_answers config t p = answered (Reconfigure config) t _ _ _ _ (λ q. None) (reconfigure_is_kept config) (λ s. (refl, refl)) (λ s. refl) p refl
