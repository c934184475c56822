use Rattle.std.proofs.Common.{◌≡◌, ◌≤◌, Bool, true, false, not, ◌&&◌, length, Some, is_some, refl, ap, sym, ◌∙◌, arith}
use Rattle.std.specs.Map.{lookup, remove_entry, values_of}
use Rattle.std.proofs.lemmas.Bool.{not-true, not-false}
use Rattle.std.proofs.lemmas.List.Filters.{length-filter_both}
use Rattle.eu_base.specs.declared.tasks.Task.{Task}
use Rattle.eu_model.specs.Server.{is_old}
use Rattle.eu_audit_queue.specs.PlainQueue.{are_apart}
use Rattle.eu_audit_queue.specs.Names.{entries_of, has_name, name_of, names_eq, without_old}
use Rattle.eu_audit_queue.proofs.ApartLemmas.{apart_filter}
use Rattle.eu_audit_queue.proofs.LineLemmas.{has-lookup, kept, values-entries, without-live, without-none, without-old}
use Rattle.eu_audit_queue.proofs.order.Order.drop_old.Goals as goal

pub returns-in_default : goal.returns-in_default
returns-in_default c =
    let old = c.args.self.now in
    let name = c.args.name.now in
    let under : c.self.inside.tasks.entries ≡ entries_of old = c.self.invariant.0 ∙ ap entries_of c.self.view_is in
    let none : has_name name old ≡ false = sym (has-lookup name old) ∙ ap (λ es. is_some (lookup (names_eq name) es)) (sym under) ∙ ap is_some (sym c.in_default.ensures) in
    sym (without-none c.args.moment name old none)

pub returns-then-is_live : goal.returns-then-is_live
returns-then-is_live c =
    let old = c.args.self.now in
    let name = c.args.name.now in
    let under : c.self.inside.tasks.entries ≡ entries_of old = c.self.invariant.0 ∙ ap entries_of c.self.view_is in
    let apart : are_apart old ≡ true = ap are_apart (sym c.self.view_is) ∙ c.self.invariant.1 in
    let found : lookup (names_eq name) (entries_of old) ≡ Some c.in-Some.task.now = ap (lookup (names_eq name)) (sym under) ∙ sym c.in-Some.ensures in
    sym (without-live c.args.moment name c.in-Some.task.now old apart found (not-true _ (sym c.is_live.ensures ∙ c.if-is_live.true)))

pub invariant_of-self : goal.invariant_of-self
invariant_of-self c =
    let old = c.args.self.now in
    let name = c.args.name.now in
    let left = without_old c.args.moment name old in
    let under : c.self.inside.tasks.entries ≡ entries_of old = c.self.invariant.0 ∙ ap entries_of c.self.view_is in
    let apart : are_apart old ≡ true = ap are_apart (sym c.self.view_is) ∙ c.self.invariant.1 in
    let found : lookup (names_eq name) (entries_of old) ≡ Some c.in-Some.task.now = ap (lookup (names_eq name)) (sym under) ∙ sym c.in-Some.ensures in
    let whole : c.pop.new.self.entries ≡ entries_of left = ap (λ a. a.entries) c.pop.ensures.entries
    ∙ ap (remove_entry (names_eq name)) under
    ∙ without-old c.args.moment name c.in-Some.task.now old apart found (not-false _ (sym c.is_live.ensures ∙ c.if-is_live.false)) in
    let stays : Task → Bool = λ task. not (names_eq name (name_of task) && is_old c.args.moment task) in
    let few : length left ≤ 10000 = omega (arith, length-filter_both stays (λ task. not (stays task)) (λ _. refl) old, ap length c.self.view_is, c.self.invariant.2) in
    let k = kept c.pop.new.self.entries left whole (apart_filter stays old apart) few in
    (k.0, k.1, k.2, ap (λ a. a.cap) c.pop.ensures.entries ∙ c.self.invariant.3)

pub returns : goal.returns
returns c =
    let old = c.args.self.now in
    let name = c.args.name.now in
    let under : c.self.inside.tasks.entries ≡ entries_of old = c.self.invariant.0 ∙ ap entries_of c.self.view_is in
    let apart : are_apart old ≡ true = ap are_apart (sym c.self.view_is) ∙ c.self.invariant.1 in
    let found : lookup (names_eq name) (entries_of old) ≡ Some c.in-Some.task.now = ap (lookup (names_eq name)) (sym under) ∙ sym c.in-Some.ensures in
    ap (λ a. values_of a.entries) c.pop.ensures.entries
    ∙ ap (λ es. values_of (remove_entry (names_eq name) es)) under
    ∙ ap values_of (without-old c.args.moment name c.in-Some.task.now old apart found (not-false _ (sym c.is_live.ensures ∙ c.if-is_live.false)))
    ∙ values-entries (without_old c.args.moment name old)
