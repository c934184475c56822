use Rattle.std.proofs.Common.{◌≢◌, [], Err, subst}
use mathlib.Core.Logic.{inr}
use Rattle.std.proofs.lemmas.Str.{is_utf8-from_IsUtf8}
use Rattle.eu_base.specs.declared.faults.Fault.TheVariants.{NotJson}
use Rattle.eu_base.specs.Gives.{Gives}
use Rattle.eu_json.specs.Reading.{instance_of}
use Rattle.eu_http.specs.Asks.{instance_in}
use Rattle.eu_http.proofs.AskLemmas.{of_text, of_bytes, text_by_instance}
use Rattle.eu_http.proofs.requests.instance_in.Goals as goal

pub returns-in-Ok-clause-said : goal.returns-in-Ok-clause-said
returns-in-Ok-clause-said c =
    let text = c.in-Ok.ensures.cases in
    rw (of_text c.args.body.now (instance_of c.args.app.now c.args.moment c.args.body.now) (Err NotJson) text.1, ← text.0) c.read_instance.ensures.said

pub returns-in-Ok-clause-memory : goal.returns-in-Ok-clause-memory
returns-in-Ok-clause-memory c =
    let text = c.in-Ok.ensures.cases in
    λ short. (is_utf8-from_IsUtf8 c.args.body.now text.1, subst (λ t. t ≢ []) text.0 (c.read_instance.ensures.memory short))

pub returns-in-Ok-clause-text : goal.returns-in-Ok-clause-text
returns-in-Ok-clause-text c =
    let text = c.in-Ok.ensures.cases in
    let said : Gives c.read_instance.result (instance_in c.args.app.now c.args.moment c.args.body.now) =
    rw (of_text c.args.body.now (instance_of c.args.app.now c.args.moment c.args.body.now) (Err NotJson) text.1, ← text.0) c.read_instance.ensures.said in
    text_by_instance c.args.app.now c.args.moment c.args.body.now c.read_instance.result said

pub returns-in-Err-clause-said : goal.returns-in-Err-clause-said
returns-in-Err-clause-said c = inr (of_bytes c.args.body.now _ _ c.in-Err.ensures.cases.0)
