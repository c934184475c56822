use Rattle.std.proofs.Common.{◌≡◌, ◌≤◌, ℕ, List, Result, Ok, Err, String, Global, string_bytes, ◌++◌, ap, ◌∙◌}
use Rattle.std.specs.Prelude.{IfOk}
use Rattle.serde_json.specs.Data.{depth}
use Rattle.serde_json.specs.Read.{max_depth, read}
use Rattle.serde_json.specs.Written.{compact_text}
use Rattle.eu_base.specs.declared.tasks.Task.{Task}
use Rattle.eu_text.proofs.ReadLemmas.{read_text}
use Rattle.eu_json.specs.Batch.{batch_tree}
use Rattle.eu_json.specs.BatchLaw.{IsBatch, SaysTasks}
use Rattle.eu_json.proofs.BatchLemmas.{batches_come_back}
use Rattle.eu_json.proofs.ToldLemmas.{batch_fits}
use Rattle.eu_json.proofs.batch_write.batch_text.Goals as goal

-- the text of the tree is read back as that
comes_back : {E : Type 0} (r : Result (String Global) E) (bytes : List ℕ) (ts : List Task) → IfOk r (λ s. string_bytes s ≡ bytes) → bytes ≡ compact_text (batch_tree ts)
    → IfOk r (λ s. IsBatch ts → depth (batch_tree ts) ≤ max_depth → SaysTasks (string_bytes s) ts)
comes_back (Ok s) bytes ts same wrote =
    λ batch deep.
    let asked = batches_come_back ts batch in
    (asked.0, asked.1, asked.2 (string_bytes s) (ap read (same ∙ wrote) ∙ read_text (batch_tree ts) (batch_fits ts batch deep)))
comes_back (Err e) bytes ts same wrote = tt

pub returns-clause-comes_back : goal.returns-clause-comes_back
returns-clause-comes_back c =
    comes_back c.text_of.result c.append_batch.new.out.items c.args.tasks.now c.text_of.ensures
    (c.in_ok-append_batch.ensures ∙ ap (λ s. s ++ compact_text (batch_tree c.args.tasks.now)) c.new-out.ensures.items)
