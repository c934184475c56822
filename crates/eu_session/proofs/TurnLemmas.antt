-- A request that came of something, and its response.
use Rattle.std.proofs.Common.{◌≡◌, ℕ, Bool, true, false, List, take, Option, Result, Ok, Err, refl, subst, sym, inl, inr}
use Rattle.std.proofs.KnownBytes.{Keeps-refl}
use Rattle.std.specs.Io.KnownBytes.{Appends, Keeps}
use Rattle.eu_base.specs.declared.faults.Fault.{Fault}
use Rattle.eu_framing.specs.declared.request.Request.{Request}
use Rattle.eu_model.specs.declared.asks.Answer.{Answer}
use Rattle.eu_model.specs.declared.asks.Ask.{Ask}
use Rattle.eu_http.specs.declared.exchange.Outcome.{Outcome}
use Rattle.eu_http.specs.declared.policy.Policy.{Policy}
use Rattle.eu_http.specs.Response.{response}
use Rattle.eu_session.specs.declared.faults.SessionFault.{SessionFault}
use Rattle.eu_session.specs.declared.faults.SessionFault.TheVariants.{Read, Write, OutOfMemory}
use Rattle.eu_session.specs.Session.{ComesOf, did_something}
use Rattle.eu_session.specs.Steps.{AnswersTo, Comes, EndsWithoutMemory}

module _ {D C : Type 0} (policy : Policy) (asked : D → Ask → ℕ → Result Answer Fault → D → Type 0) (tells : C → ℕ → C → Type 0) where
  pub answered : (request : Request) (close : Bool) (desk desk' : D) (clock clock' : C) (before after : Option (List ℕ)) (failed : Bool) (moment : ℕ) (outcome : Outcome) (text : List ℕ)
      → tells clock moment clock' → ComesOf policy asked desk request moment outcome desk' → text ≡ response outcome close → Appends before after text
      → AnswersTo policy asked tells request close desk clock before desk' clock' after failed (Ok tt)
  answered request close desk desk' clock clock' before after failed moment outcome text told comes is written =
      (record { moment = moment; told = told; outcome = outcome; comes = comes }, subst (λ (bytes : List ℕ). Appends before after bytes) is written)

  pub unwritten : (request : Request) (close : Bool) (desk desk' : D) (clock clock' : C) (before after : Option (List ℕ)) (failed : Bool) (moment : ℕ) (outcome : Outcome) (text : List ℕ)
      → tells clock moment clock' → ComesOf policy asked desk request moment outcome desk' → text ≡ response outcome close → failed ≡ true → (len : ℕ) × Appends before after (take len text)
      → AnswersTo policy asked tells request close desk clock before desk' clock' after failed (Err Write)
  unwritten request close desk desk' clock clock' before after failed moment outcome text told comes is fails written =
      (fails, inl (record { moment = moment; told = told; outcome = outcome; comes = comes }, written.0, subst (λ (bytes : List ℕ). Appends before after (take written.0 bytes)) is written.1))

  -- something was done, or it is told that there is no memory
  pub unanswered : (request : Request) (close : Bool) (desk desk' : D) (clock clock' : C) (before after : Option (List ℕ)) (failed : Bool) (moment : ℕ) (outcome : Outcome) (fault : SessionFault)
      → tells clock moment clock' → ComesOf policy asked desk request moment outcome desk' → (did_something outcome ≡ true → (fault ≡ OutOfMemory) × (after ≡ before))
      → (did_something outcome ≡ false → EndsWithoutMemory before after failed fault) → AnswersTo policy asked tells request close desk clock before desk' clock' after failed (Err fault)
  unanswered request close desk desk' clock clock' before after failed moment outcome fault told comes done ends =
      let came : Comes policy asked tells request desk clock desk' clock' = record { moment = moment; told = told; outcome = outcome; comes = comes } in
      elim (did_something outcome) as (λ b. did_something outcome ≡ b → AnswersTo policy asked tells request close desk clock before desk' clock' after failed (Err fault)) [
        | true ↦ λ did.
            subst (λ f. AnswersTo policy asked tells request close desk clock before desk' clock' after failed (Err f)) (sym (done did).0)
            (inr (subst (Keeps before) (sym (done did).1) (Keeps-refl before), (came, did)))
        | false ↦ λ did. idles request close desk desk' clock clock' before after failed fault (came, did) (ends did)
      ] refl
    where
      idles : (request : Request) (close : Bool) (desk desk' : D) (clock clock' : C) (before after : Option (List ℕ)) (failed : Bool) (fault : SessionFault)
          → ((c : Comes policy asked tells request desk clock desk' clock') × (did_something c.outcome ≡ false)) → EndsWithoutMemory before after failed fault
          → AnswersTo policy asked tells request close desk clock before desk' clock' after failed (Err fault)
      idles request close desk desk' clock clock' before after failed Read nothing x = absurd x
      idles request close desk desk' clock clock' before after failed Write nothing x = (x.0, inr (inr nothing, x.1))
      idles request close desk desk' clock clock' before after failed OutOfMemory nothing x = inl (inr nothing, x)
