use Rattle.std.proofs.Common.{◌≡◌, ◌≤◌, ◌∷◌, ◌++◌, [], true, length, ap, sym, ◌∙◌, arith, length-append}
use Rattle.std.specs.Map.{values_of}
use Rattle.lru.specs.LruCache.{demoted}
use Rattle.eu_audit_queue.specs.PlainQueue.{are_apart}
use Rattle.eu_audit_queue.specs.Names.{entries_of, names_eq}
use Rattle.eu_audit_queue.proofs.ApartLemmas.{apart_push}
use Rattle.eu_audit_queue.proofs.LineLemmas.{go_last, kept, put_new, values-entries}
use Rattle.eu_audit_queue.proofs.order.Order.put_last.Goals as goal

pub invariant_of-self-2 : goal.invariant_of-self-2
invariant_of-self-2 c =
    let old = c.args.self.now in
    let task = c.args.task in
    let last = c.in_ok-last.last in
    let under : c.self.inside.tasks.entries ≡ entries_of old = c.self.invariant.0 ∙ ap entries_of c.self.view_is in
    let room : length old ≤ 10000 = omega (arith, c.requires.few) in
    let few : length (old ++ task ∷ []) ≤ 10000 = omega (arith, length-append old (task ∷ []), c.requires.few) in
    let whole : c.demote.new.self.entries ≡ entries_of (old ++ task ∷ []) = ap (λ a. a.entries) c.demote.ensures.entries
    ∙ ap (λ a. demoted (names_eq last) a.entries) c.in_ok-before.ensures.entries
    ∙ ap (demoted (names_eq last)) (put_new c.self.inside.tasks c.in_ok-name.name task old under c.self.invariant.3 c.in_ok-name.ensures c.requires.new room)
    ∙ go_last last task old c.in_ok-last.ensures in
    let apart : are_apart (old ++ task ∷ []) ≡ true = apart_push old task (ap are_apart (sym c.self.view_is) ∙ c.self.invariant.1) c.requires.new in
    let k = kept c.demote.new.self.entries (old ++ task ∷ []) whole apart few in
    (k.0, k.1, k.2, ap (λ a. a.cap) c.demote.ensures.entries ∙ ap (λ a. a.cap) c.in_ok-before.ensures.entries ∙ c.self.invariant.3)

pub returns-clause-ok : goal.returns-clause-ok
returns-clause-ok c =
    let old = c.args.self.now in
    let task = c.args.task in
    let last = c.in_ok-last.last in
    let under : c.self.inside.tasks.entries ≡ entries_of old = c.self.invariant.0 ∙ ap entries_of c.self.view_is in
    let room : length old ≤ 10000 = omega (arith, c.requires.few) in
    ap (λ a. values_of a.entries) c.demote.ensures.entries
    ∙ ap (λ a. values_of (demoted (names_eq last) a.entries)) c.in_ok-before.ensures.entries
    ∙ ap (λ es. values_of (demoted (names_eq last) es)) (put_new c.self.inside.tasks c.in_ok-name.name task old under c.self.invariant.3 c.in_ok-name.ensures c.requires.new room)
    ∙ ap values_of (go_last last task old c.in_ok-last.ensures)
    ∙ values-entries (old ++ task ∷ [])
