-- How a server of the same process answers a batch
use Rattle.std.specs.Prelude.{◌≡◌, ◌⊎◌, ℕ, List, map, Option, Some, None, Result}
use Rattle.eu_base.specs.declared.faults.Fault.{Fault}
use Rattle.eu_base.specs.declared.tasks.Task.{Task}
use Rattle.eu_model.specs.declared.asks.Answer.{Answer}
use Rattle.eu_model.specs.declared.asks.Ask.{Ask}
use Rattle.eu_model.specs.declared.asks.Ask.TheVariants.{Do}
use Rattle.eu_http.specs.Response.{item_of}
use Rattle.eu_json.specs.declared.batch_write.ItemAnswer.{ItemAnswer}
use Rattle.eu_model.specs.declared.commands.Command.{Command}
use Rattle.eu_json.specs.BatchLaw.{asked_by}
use Rattle.eu_model.specs.Chain.{Pairs}

-- the answer to a task that lacks what its action needs
abbrev pub unreadable : ItemAnswer
unreadable = record { code = 400; instance = None }

-- `asked s ask moment result s'`: a desk in the state s, asked at the moment, gives the result and is in the state s' then
module _ {D : Type 0} (asked : D → Ask → ℕ → Result Answer Fault → D → Type 0) where
  -- a command is asked, and its item tells what came of it; where there is none, nothing is asked
  abbrev pub AnswersItem : ℕ → D → Option Command → ItemAnswer → D → Type 0
  AnswersItem moment desk (Some c) item desk' = (result : Result Answer Fault) × asked desk (Do c) moment result desk' × (item ≡ item_of result)
  AnswersItem moment desk None item desk' = (item ≡ unreadable) × (desk' ≡ desk)

  -- At one moment, which the clock told, the command of each task is asked, in order, and answered at its place. Of a batch that is
  -- lost nothing was asked, and the clock told one moment or none
  abbrev pub Delivers : {C : Type 0} → (C → ℕ → C → Type 0) → D → C → List Task → Option (List ItemAnswer) → D → C → Type 0
  Delivers tells desk clock batch (Some items) desk' clock' =
      (moment : ℕ) × tells clock moment clock'
      × Pairs (λ s command item s'. AnswersItem moment s command item s') desk (map asked_by batch) items desk'
  Delivers tells desk clock batch None desk' clock' = (desk' ≡ desk) × ((clock' ≡ clock) ⊎ ((moment : ℕ) × tells clock moment clock'))
