use Rattle.std.proofs.Common.{◌≤◌, arith, sym, ap, ◌∙◌, subst, below_more}
use Rattle.std.specs.Prelude.{All, List}
use Rattle.eu_model.specs.declared.commands.Entry.{Entry}
use Rattle.eu_settle.specs.declared.closed.PassLog.{PassLog}
use Rattle.eu_settle.specs.Settled.{from_first, part_of, log_at, IsSettledAt}
use Rattle.eu_settle.proofs.PlaceLemmas.{all_below}
use Rattle.eu_settle.proofs.settling.settle.Goals as goal

pub returns-then-next-clause-ok : goal.returns-then-next-clause-ok
returns-then-next-clause-ok c n small =
    let m = c.min-next.ensures in
    let of_logs = subst (λ (x : List PassLog). All (λ (l : PassLog). c.loop-from.from ≤ l.pass → c.next_log.result ≤ l.pass) x) c.as_slice-logs.ensures.value c.next_log.ensures.least in
    let of_entries = subst (λ (x : List Entry). All (λ (e : Entry). c.loop-from.from ≤ e.pass → c.next_entry.result ≤ e.pass) x) c.as_slice-entries.ensures.value c.next_entry.ensures.least in
    let book = c.args.closed.now in
    let below = all_below book.first book.logs.items book.entries.items c.loop-from.from c.next_log.result c.next_entry.result c.min-next.result of_logs of_entries (omega arith) (omega arith) c.loop-from.invariant.settled in
    below n (omega (arith, small, c.if-next.true))

pub returns-in-Some-clause-mismatch : goal.returns-in-Some-clause-mismatch
returns-in-Some-clause-mismatch c =
    let m = c.min-next.ensures in
    let of_logs = subst (λ (x : List PassLog). All (λ (l : PassLog). c.loop-from.from ≤ l.pass → c.next_log.result ≤ l.pass) x) c.as_slice-logs.ensures.value c.next_log.ensures.least in
    let of_entries = subst (λ (x : List Entry). All (λ (e : Entry). c.loop-from.from ≤ e.pass → c.next_entry.result ≤ e.pass) x) c.as_slice-entries.ensures.value c.next_entry.ensures.least in
    let book = c.args.closed.now in
    let below = all_below book.first book.logs.items book.entries.items c.loop-from.from c.next_log.result c.next_entry.result c.min-next.result of_logs of_entries (omega arith) (omega arith) c.loop-from.invariant.settled in
    let log = c.log_of.ensures ∙ ap (log_at c.min-next.result) c.as_slice-logs.ensures.value in
    record { earlier = below; differs = rw (← log, ← c.as_slice-entries.ensures.value) c.in-Some.ensures.some }

pub loop-from-preserved : goal.loop-from-preserved
loop-from-preserved c =
    let m = c.min-next.ensures in
    let of_logs = subst (λ (x : List PassLog). All (λ (l : PassLog). c.loop-from.from ≤ l.pass → c.next_log.result ≤ l.pass) x) c.as_slice-logs.ensures.value c.next_log.ensures.least in
    let of_entries = subst (λ (x : List Entry). All (λ (e : Entry). c.loop-from.from ≤ e.pass → c.next_entry.result ≤ e.pass) x) c.as_slice-entries.ensures.value c.next_entry.ensures.least in
    let book = c.args.closed.now in
    let below = all_below book.first book.logs.items book.entries.items c.loop-from.from c.next_log.result c.next_entry.result c.min-next.result of_logs of_entries (omega arith) (omega arith) c.loop-from.invariant.settled in
    let log = c.log_of.ensures ∙ ap (log_at c.min-next.result) c.as_slice-logs.ensures.value in
    let here : IsSettledAt book.first book.logs.items book.entries.items c.min-next.result = ap (from_first book.first) (sym log) ∙ (c.in_default.ensures.none ∙ ap (part_of c.min-next.result) c.as_slice-entries.ensures.value) in
    record { settled = below_more _ _ below here; small = omega (arith, c.if-next.false) }
