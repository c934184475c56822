use Rattle.std.proofs.Common.{◌≡◌, ◌≤◌, true, false, length, map, is_some, ap, sym, ◌∙◌, arith}
use Rattle.std.specs.Map.{lookup, set_value, values_of}
use Rattle.std.proofs.lemmas.List.{length-map}
use Rattle.eu_audit_queue.specs.PlainQueue.{are_apart}
use Rattle.eu_audit_queue.specs.Names.{entries_of, has_name, names_eq}
use Rattle.eu_audit_queue.proofs.ApartLemmas.{apart_for}
use Rattle.eu_audit_queue.proofs.LineLemmas.{has-lookup, kept, set-for_same, values-entries}
use Rattle.eu_audit_queue.proofs.NameLemmas.{for_same, map-for_same}
use Rattle.eu_audit_queue.proofs.order.Order.replace.Goals as goal

pub returns-in_default : goal.returns-in_default
returns-in_default c =
    let old = c.args.self.now in
    let name = c.args.name.now in
    let under : c.self.inside.tasks.entries ≡ entries_of old = c.self.invariant.0 ∙ ap entries_of c.self.view_is in
    let none : has_name name old ≡ false = sym (has-lookup name old) ∙ ap (λ es. is_some (lookup (names_eq name) es)) (sym under) ∙ ap is_some (sym c.in_default.ensures.value) in
    c.self.view_is ∙ sym (map-for_same c.args.task old (ap (λ n. has_name n old) (sym c.requires) ∙ none))

pub invariant_of-self-2 : goal.invariant_of-self-2
invariant_of-self-2 c =
    let old = c.args.self.now in
    let task = c.args.task in
    let under : c.self.inside.tasks.entries ≡ entries_of old = c.self.invariant.0 ∙ ap entries_of c.self.view_is in
    let apart : are_apart old ≡ true = ap are_apart (sym c.self.view_is) ∙ c.self.invariant.1 in
    let whole : set_value (names_eq c.args.name.now) c.self.inside.tasks.entries c.replace-before.new.dest ≡ entries_of (map (for_same task) old) =
    (λ i. set_value (names_eq (c.requires i)) (under i) (c.replace-before.ensures.after i)) ∙ set-for_same task old apart in
    let few : length (map (for_same task) old) ≤ 10000 = omega (arith, length-map old (for_same task), ap length c.self.view_is, c.self.invariant.2) in
    let k = kept _ (map (for_same task) old) whole (apart_for task old ∙ apart) few in
    (k.0, k.1, k.2, c.self.invariant.3)

pub returns : goal.returns
returns c =
    let old = c.args.self.now in
    let task = c.args.task in
    let under : c.self.inside.tasks.entries ≡ entries_of old = c.self.invariant.0 ∙ ap entries_of c.self.view_is in
    let apart : are_apart old ≡ true = ap are_apart (sym c.self.view_is) ∙ c.self.invariant.1 in
    (λ i. values_of (set_value (names_eq (c.requires i)) (under i) (c.replace-before.ensures.after i)))
    ∙ ap values_of (set-for_same task old apart) ∙ values-entries (map (for_same task) old)
