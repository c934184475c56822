use Rattle.std.proofs.Common.{◌≡◌, ◌+◌, ◌-◌, length, get_or, slice_get, sym, ap, subst, ◌∙◌, Some, List, arith}
use Rattle.std.specs.Option.{option_map}
use Rattle.std.specs.Map.Iter.{deref_pair}
use Rattle.eu_base.specs.declared.names.Key.{Key}
use Rattle.eu_deadlines.specs.Indexed.{AreBefore}
use Rattle.eu_store.specs.Stored.{expired_keys, deadlines}
use Rattle.eu_store.proofs.MapLemmas.{nobody, sorted_expired}
use Rattle.eu_store.proofs.FoundLemmas.{length_end, told_more}
use Rattle.eu_store.proofs.leases.Leases.expired_counted.Goals as goal

pub loop-place-preserved : goal.loop-place-preserved
loop-place-preserved c =
    let es = c.as_slice-entries.result in
    let keys = c.loop-place.keys.items in
    let i = c.loop-place.invariant in
    let made = c.in_ok-push.ensures.items in
    let v = c.unwrap.result.1.now in
    let there : slice_get es (get_or c.deref-place-items.result.now c.loop-place.place-index 0) ≡ Some (c.in_ok-copy.field-0, v) =
    sym c.get_index.ensures.entry ∙ ap (option_map deref_pair) c.unwrap.ensures ∙ ap (λ (k : Key). Some (k, v)) (sym c.in_ok-copy.ensures) in
    record {
      long = ap length made ∙ length_end keys c.in_ok-copy.field-0 ∙ ap (λ n. n + 1) i.long;
      told = λ j h.
          let r = told_more es c.deref-place-items.result.now keys c.in_ok-copy.field-0 nobody v c.loop-place.place-index i.long i.told there j h in
          (r.0, r.1 ∙ ap (λ (l : List Key). Some (get_or l j nobody, r.0)) (sym made));
    }

pub returns-clause-keys : goal.returns-clause-keys
returns-clause-keys c =
    let es = c.self.inside.table.entries in
    let found = c.in_ok-places.places.items in
    let was = c.deref-place-items.ensures.value in
    let all : c.loop-place.place-index ≡ length found = omega (arith, ap length was) in
    let before = subst (λ l. AreBefore l c.saturating_sub-limit.result found) c.self.invariant.1 c.in_ok-places.ensures.found in
    let late = subst (λ n. AreBefore (deadlines es) n found) (c.saturating_sub-limit.ensures ∙ ap (λ m. m - c.args.extra) c.ms.ensures.value) before in
    sorted_expired c.args.moment c.args.extra es found c.as_slice-entries.ensures.unique late c.loop-place.keys.items c.sort.new.self.items (c.loop-place.invariant.long ∙ all)
    (λ j h. let r = c.loop-place.invariant.told j (omega (arith, h, all)) in (r.0, (λ n. slice_get (sym c.as_slice-entries.ensures.entries n) (get_or (sym was n) j 0)) ∙ r.1))
    c.in_ok-sort.ensures.permutation c.in_ok-sort.ensures.sorted
    ∙ ap (λ s. expired_keys s.held c.args.moment c.args.extra) c.self.view_is
