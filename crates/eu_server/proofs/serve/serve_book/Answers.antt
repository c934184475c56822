use Rattle.std.proofs.Common.{◌≡◌}
use Rattle.eu_book.specs.Account.{IsLawful}
use Rattle.eu_book.specs.Peers.{state_of}
use Rattle.eu_settle.specs.Settled.{IsSettled}
use Rattle.eu_shared.specs.Closing.{account_of}
use Rattle.eu_server.proofs.Ending.{judged, ends}
use Rattle.eu_server.proofs.serve.serve_book.Goals as goal

pub returns-clause-lawful : goal.returns-clause-lawful
returns-clause-lawful g c =
    judged (λ o. IsLawful (account_of o.closed)) c.counts.result.has_failed c.serve_and_close-outcome.result c.judge_accepts.result
    c.judge_accepts.ensures.other c.judge_accepts.ensures.failed c.serve_and_close-outcome.ensures.lawful

pub returns-clause-plain : goal.returns-clause-plain
returns-clause-plain g c =
    judged (λ o. (o.closed.base ≡ state_of (account_of o.closed).base) × (o.closed.end ≡ state_of (account_of o.closed).state))
    c.counts.result.has_failed c.serve_and_close-outcome.result c.judge_accepts.result
    c.judge_accepts.ensures.other c.judge_accepts.ensures.failed c.serve_and_close-outcome.ensures.plain

pub returns-clause-settled : goal.returns-clause-settled
returns-clause-settled g c =
    judged (λ o. IsSettled o.closed.first o.closed.logs.items o.closed.entries.items)
    c.counts.result.has_failed c.serve_and_close-outcome.result c.judge_accepts.result
    c.judge_accepts.ensures.other c.judge_accepts.ensures.failed c.serve_and_close-outcome.ensures.settled

pub returns-clause-fault : goal.returns-clause-fault
returns-clause-fault g c =
    ends c.counts.result.has_failed c.serve_and_close-outcome.result c.judge_accepts.result
    c.judge_accepts.ensures.other c.judge_accepts.ensures.failed c.serve_and_close-outcome.ensures.fault
