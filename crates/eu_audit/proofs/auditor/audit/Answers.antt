use Rattle.std.proofs.Common.{◌≡◌, true, sym, subst, true≢false}
use Rattle.std.specs.Prelude.{IfSome}
use Rattle.eu_model.specs.Server.{PlainServer}
use Rattle.eu_model.specs.State.{server_of_state}
use Rattle.eu_audit.specs.PlainForm.{has_plain_parts, is_plain_form}
use Rattle.eu_audit.specs.PlainRuns.{PlainRun}
use Rattle.eu_audit.specs.Verdict.{Judged}
use Rattle.eu_audit.proofs.AuditLemmas.{found, lists_last, leads_nowhere}
use Rattle.eu_audit.proofs.auditor.audit.Goals as goal

pub returns-in-Some-2 : goal.returns-in-Some-2
returns-in-Some-2 c =
    let base = c.args.base.now in
    let end = c.args.end.now in
    let plain_end = found (λ queues. queues.items ≡ end.queues) (has_plain_parts end ≡ true) c.in_ok-read_unordered.field-0 c.if-is_none.ensures c.in_ok-read_unordered.ensures.some in
    let read = subst (λ o. IfSome o (λ (s : PlainServer). (s ≡ server_of_state base) × (is_plain_form base ≡ true))) c.in-Some.is c.in_ok-server.ensures.some in
    let run = subst (Judged (PlainRun c.in-Some.server c.args.entries.now)) c.in-Some-2.is c.in_ok-last.ensures in
    lists_last base c.args.entries.now end c.in-Some.server read.0 c.in-Some-2.last plain_end read.1 run c.is_listed.result c.is_listed.ensures

pub returns-in-None : goal.returns-in-None
returns-in-None c =
    let base = c.args.base.now in
    let read = subst (λ o. IfSome o (λ (s : PlainServer). (s ≡ server_of_state base) × (is_plain_form base ≡ true))) c.in-Some.is c.in_ok-server.ensures.some in
    let none = subst (Judged (PlainRun c.in-Some.server c.args.entries.now)) c.in-None.is c.in_ok-last.ensures in
    (λ no. absurd (true≢false (sym no)), λ r. absurd (leads_nowhere base c.args.entries.now c.args.end.now c.in-Some.server read.0 none r))
