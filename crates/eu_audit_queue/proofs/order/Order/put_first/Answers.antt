use Rattle.std.proofs.Common.{◌≡◌, ◌≤◌, ◌∷◌, true, length, ap, sym, ◌∙◌, arith}
use Rattle.std.specs.Map.{values_of}
use Rattle.eu_audit_queue.specs.PlainQueue.{are_apart}
use Rattle.eu_audit_queue.specs.Names.{entries_of}
use Rattle.eu_audit_queue.proofs.ApartLemmas.{apart_cons}
use Rattle.eu_audit_queue.proofs.LineLemmas.{kept, put_new, values-entries}
use Rattle.eu_audit_queue.proofs.order.Order.put_first.Goals as goal

pub invariant_of-self-2 : goal.invariant_of-self-2
invariant_of-self-2 c =
    let old = c.args.self.now in
    let task = c.args.task in
    let under : c.self.inside.tasks.entries ≡ entries_of old = c.self.invariant.0 ∙ ap entries_of c.self.view_is in
    let room : length old ≤ 10000 = omega (arith, c.requires.few) in
    let few : length (task ∷ old) ≤ 10000 = omega (arith, c.requires.few) in
    let whole : c.put.new.self.entries ≡ entries_of (task ∷ old) = ap (λ a. a.entries) c.in_ok-before.ensures.entries
    ∙ put_new c.self.inside.tasks c.in_ok-name.name task old under c.self.invariant.3 c.in_ok-name.ensures c.requires.new room in
    let apart : are_apart (task ∷ old) ≡ true = apart_cons task old c.requires.new (ap are_apart (sym c.self.view_is) ∙ c.self.invariant.1) in
    let k = kept c.put.new.self.entries (task ∷ old) whole apart few in
    (k.0, k.1, k.2, ap (λ a. a.cap) c.in_ok-before.ensures.entries ∙ c.self.invariant.3)

pub returns-clause-ok : goal.returns-clause-ok
returns-clause-ok c =
    let old = c.args.self.now in
    let under : c.self.inside.tasks.entries ≡ entries_of old = c.self.invariant.0 ∙ ap entries_of c.self.view_is in
    let room : length old ≤ 10000 = omega (arith, c.requires.few) in
    ap (λ a. values_of a.entries) c.in_ok-before.ensures.entries
    ∙ ap values_of (put_new c.self.inside.tasks c.in_ok-name.name c.args.task old under c.self.invariant.3 c.in_ok-name.ensures c.requires.new room)
    ∙ values-entries (c.args.task ∷ old)
