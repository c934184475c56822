use Rattle.std.proofs.Common.{◌≢◌, [], Err, subst}
use mathlib.Core.Logic.{inr}
use Rattle.std.proofs.lemmas.Str.{is_utf8-from_IsUtf8}
use Rattle.eu_base.specs.declared.faults.Fault.TheVariants.{BadBatch}
use Rattle.eu_base.specs.Gives.{Gives, result_map}
use Rattle.eu_json.specs.Batch.{batch_of}
use Rattle.eu_http.specs.Asks.{batch_in}
use Rattle.eu_http.proofs.AskLemmas.{of_text, of_bytes, text_by_batch}
use Rattle.eu_http.proofs.requests.batch_in.Goals as goal

pub returns-in-Ok-clause-said : goal.returns-in-Ok-clause-said
returns-in-Ok-clause-said c =
    let text = c.in-Ok.ensures.cases in
    rw (of_text c.args.body.now (batch_of c.args.moment c.args.body.now) (Err BadBatch) text.1, ← text.0) c.read_batch.ensures.said

pub returns-in-Ok-clause-memory : goal.returns-in-Ok-clause-memory
returns-in-Ok-clause-memory c =
    let text = c.in-Ok.ensures.cases in
    λ short. (is_utf8-from_IsUtf8 c.args.body.now text.1, subst (λ t. t ≢ []) text.0 (c.read_batch.ensures.memory short))

pub returns-in-Ok-clause-text : goal.returns-in-Ok-clause-text
returns-in-Ok-clause-text c =
    let text = c.in-Ok.ensures.cases in
    let said : Gives (result_map (λ v. v.items) c.read_batch.result) (batch_in c.args.moment c.args.body.now) =
    rw (of_text c.args.body.now (batch_of c.args.moment c.args.body.now) (Err BadBatch) text.1, ← text.0) c.read_batch.ensures.said in
    text_by_batch (λ v. v.items) c.args.moment c.args.body.now c.read_batch.result said

pub returns-in-Err-clause-said : goal.returns-in-Err-clause-said
returns-in-Err-clause-said c = inr (of_bytes c.args.body.now _ _ c.in-Err.ensures.cases.0)
