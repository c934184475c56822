use Rattle.std.proofs.Common.{◌≤◌, ◌++◌, ◌∷◌, [], length, sym, ap, ◌∙◌, arith}
use Rattle.std.specs.FinMap as map
use Rattle.indexmap.proofs.CallerLemmas.{insert_entry-new}
use Rattle.eu_base.specs.declared.instances.Instance.{Instance}
use Rattle.eu_base.specs.Values.{key_eq}
use Rattle.eu_model.specs.View.{in_status, with_one_more}
use Rattle.eu_store.specs.Stored.{counts_of, deadlines}
use Rattle.eu_store.proofs.CountLemmas.{counts_inserted, counts_most}
use Rattle.eu_store.proofs.MapLemmas.{at_ok}
use Rattle.eu_store.proofs.TableLemmas.{by_key, get_at, inserted}
use Rattle.eu_store.proofs.IndexLemmas.{deadlines-push, length-push}
use Rattle.eu_store.proofs.leases.Leases.insert.Goals as goal

pub add-requires : goal.add-requires
add-requires c =
    omega (arith, c.self.invariant.0, ap (λ n. in_status n c.status.result) c.self.invariant.2, counts_most c.self.inside.table.entries c.status.result)

pub push-requires : goal.push-requires
push-requires c = omega (arith, c.requires.room, ap (λ s. s.room) c.self.view_is)

pub unwrap-requires : goal.unwrap-requires
unwrap-requires c = c.insert.ensures.succeeds (omega (arith, c.requires.room, ap (λ s. s.room) c.self.view_is))

pub invariant_of-self : goal.invariant_of-self
invariant_of-self c =
    let es = c.self.inside.table.entries in
    let absent = sym (get_at by_key es c.args.key) ∙ ap (λ s. map.get s.held c.args.key) c.self.view_is ∙ c.requires.new in
    let made = at_ok _ c.insert.ensures.entries c.unwrap.ensures ∙ insert_entry-new key_eq c.self.inside.table c.args.key c.args.held absent in
    let short : length c.insert.new.self.entries ≤ 65536 = omega (arith, c.requires.room, ap (λ s. s.room) c.self.view_is, ap length made, length-push es c.args.key c.args.held) in
    let none = ap (λ s. map.get s.held c.args.key) c.self.view_is ∙ c.requires.new in
    let now = inserted by_key es c.insert.new.self.entries c.args.key c.args.held (at_ok _ c.insert.ensures.updates c.unwrap.ensures).0 in (
      short,
      c.push.ensures.list ∙ (λ i. c.self.invariant.1 i ++ c.deadline.ensures i ∷ []) ∙ sym (ap deadlines made ∙ deadlines-push es c.args.key c.args.held),
      c.add.ensures ∙ (λ i. with_one_more (c.self.invariant.2 i) ((c.status.ensures ∙ ap (λ (i : Instance). i.status) c.instance.ensures) i)) ∙ counts_inserted (map.from_entries es) c.args.key c.args.held none ∙ sym (ap counts_of now),
      c.put.ensures.ordered c.args.held c.insert.new.self.entries made now,
    )

pub returns-clause-held : goal.returns-clause-held
returns-clause-held c =
    inserted by_key c.self.inside.table.entries c.insert.new.self.entries c.args.key c.args.held (at_ok _ c.insert.ensures.updates c.unwrap.ensures).0
    ∙ ap (λ s. map.insert s.held c.args.key c.args.held) c.self.view_is
