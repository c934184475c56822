use Rattle.std.proofs.Common.{is_some, slice_get, sym, ap, ◌∙◌}
use Rattle.eu_store.proofs.IndexLemmas.{stands_at}
use Rattle.eu_store.proofs.leases.place_of.Goals as goal

pub returns-in-Some-clause-index : goal.returns-in-Some-clause-index
returns-in-Some-clause-index c = sym (stands_at c.args.table.now c.args.key.now c.in-Some.found.now c.args.hint.index c.in-Some._held.now c.as_slice.ensures.unique (ap (λ es. slice_get es c.args.hint.index) (sym c.as_slice.ensures.entries) ∙ sym c.in-Some.ensures.entry) (sym c.eq.ensures ∙ c.if-eq.true)).0

pub returns-in-Some-clause-found : goal.returns-in-Some-clause-found
returns-in-Some-clause-found c =
    sym (ap is_some (stands_at c.args.table.now c.args.key.now c.in-Some.found.now c.args.hint.index c.in-Some._held.now c.as_slice.ensures.unique (ap (λ es. slice_get es c.args.hint.index) (sym c.as_slice.ensures.entries) ∙ sym c.in-Some.ensures.entry) (sym c.eq.ensures ∙ c.if-eq.true)).1)

pub returns-in-Some-clause-value : goal.returns-in-Some-clause-value
returns-in-Some-clause-value c =
    let here = stands_at c.args.table.now c.args.key.now c.in-Some.found.now c.args.hint.index c.in-Some._held.now c.as_slice.ensures.unique (ap (λ es. slice_get es c.args.hint.index) (sym c.as_slice.ensures.entries) ∙ sym c.in-Some.ensures.entry) (sym c.eq.ensures ∙ c.if-eq.true) in
    here.2 ∙ sym here.1
