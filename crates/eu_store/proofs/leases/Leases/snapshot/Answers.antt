use Rattle.std.proofs.Common.{None, sym, ap, subst, ◌∙◌}
use Rattle.std.specs.Option.{option_copied_mut}
use Rattle.eu_store.specs.Order.{undated_in, snapped, AreOrdered, IsDirectory}
use Rattle.eu_store.specs.Stored.{listing_of}
use Rattle.eu_store.proofs.DirectoryLemmas.{snapshot_is}
use Rattle.eu_store.proofs.leases.Leases.snapshot.Goals as goal

pub returns-clause-listing : goal.returns-clause-listing
returns-clause-listing c =
    let es = c.self.inside.table.entries in
    let d = c.unwrap-directory.result.now in
    let there : IsDirectory es d = subst (λ o. AreOrdered es o) (sym c.as_mut.ensures.value ∙ ap option_copied_mut c.unwrap-directory.ensures) c.in_ok-make.ensures.ordered in
    let places = c.in_ok-order.ensures ∙ ap (λ v. v.items) c.in_ok-parts.ensures.places in
    c.new.ensures
    ∙ (λ j. snapped (undated_in c.in_ok-parts.parts.items) ((c.in_ok-deadlines.ensures ∙ c.self.invariant.1) j) (places j))
    ∙ snapshot_is es d.places.items c.in_ok-parts.parts.items c.as_slice-entries.ensures.unique there.0 c.in_ok-parts.ensures.whole
    ∙ ap (λ s. listing_of None s.held) c.self.view_is
