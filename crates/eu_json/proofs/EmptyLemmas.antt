-- A text without a byte says nothing
use Rattle.std.proofs.Common.{◌≡◌, ℕ, Err, None, [], List, refl, ap}
use Rattle.json.specs.Json.{value}
use Rattle.json.specs.Lex.{lex, punctuate}
use Rattle.serde_json.specs.Read.{read}
use Rattle.eu_base.specs.declared.faults.Fault.TheVariants.{BadBatch, NotJson}
use Rattle.eu_json.specs.Batch.{batch_of, of_text}
use Rattle.eu_json.specs.Reading.{instance_of, of_body}

pub nothing_read : read [] ≡ None
unfolding value lex punctuate
nothing_read = refl

pub nothing_said : (app : List ℕ) (moment : ℕ) → instance_of app moment [] ≡ Err NotJson
nothing_said app moment = ap (of_body app moment) nothing_read

pub nothing_asked : (moment : ℕ) → batch_of moment [] ≡ Err BadBatch
unfolding of_text
nothing_asked moment = rw nothing_read refl
