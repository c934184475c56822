use Rattle.std.proofs.Common.{◌≡◌, ◌≤◌, ◌<◌, ◌⊎◌, inl, inr, ◌+◌, ◌-◌, ◌*◌, ◌++◌, ◌∷◌, [], ℕ, List, length, take, drop, sym, ap, ◌∙◌, Some, arith}
use Rattle.std.specs.Map.Iter.{deref_pair}
use Rattle.std.specs.Option.{option_map}
use Rattle.std.proofs.lemmas.Bool.{cases_lt}
use Rattle.std.proofs.lemmas.List.{length-map}
use Rattle.std.proofs.lemmas.Option.{slice_get-map}
use Rattle.eu_base.specs.declared.names.Key.{Key}
use Rattle.eu_model.specs.declared.views.Listed.{Listed}
use Rattle.eu_store.specs.Order.{undated, undated_of}
use Rattle.eu_store.proofs.PartLemmas.{gathered_all, gathered_more}
use Rattle.eu_store.proofs.directory.gathered.Goals as goal

pub loop-place-preserved : goal.loop-place-preserved
loop-place-preserved c =
    let es = c.as_slice-entries.result in
    let p = c.loop-place.place in
    let b = c.args.number * 512 in
    let entry = sym c.get_index.ensures.entry ∙ ap (option_map deref_pair) c.unwrap.ensures in
    let there = slice_get-map (λ e. undated e.1) es p ∙ ap (option_map (λ (e : Key × Listed). undated e.1)) entry ∙ ap (λ (l : Listed). Some l) (sym c.in_ok-undated.ensures) in
    let more = gathered_more (undated_of es) b p c.in_ok-undated.field-0 c.loop-place.invariant.from there in
    record {
      items = c.in_ok-push.ensures.items ∙ ap (λ is. is ++ c.in_ok-undated.field-0 ∷ []) (c.loop-place.invariant.items ∙ ap (λ (l : List (Key × Listed)). take (p - b) (drop b (undated_of l))) (sym c.as_slice-entries.ensures.entries))
          ∙ sym more ∙ ap (λ (l : List (Key × Listed)). take (p + 1 - b) (drop b (undated_of l))) c.as_slice-entries.ensures.entries;
      from = omega (arith, c.loop-place.invariant.from);
      to = omega (arith, c.loop-place-test.true);
    }

pub returns : goal.returns
returns c = c.loop-place.invariant.items ∙ gathered_all is c.args.number e c.loop-place.invariant.from high up (by (cases_lt (length is) (c.args.number * 512 + 512)))
  where
    is : List Listed
    is = undated_of c.args.table.now.entries

    e : ℕ
    e = c.loop-place.place

    many : length is ≡ length c.as_slice-entries.result
    many = length-map c.args.table.now.entries (λ f. undated f.1) ∙ sym (ap length c.as_slice-entries.ensures.entries)

    high : e ≤ length is
    high = omega (arith, c.loop-place.invariant.to, c.min-end.ensures, many, c.len.ensures)

    up : e ≤ c.args.number * 512 + 512
    up = omega (arith, c.loop-place.invariant.to, c.min-end.ensures, c.saturating_add.ensures)

    by : (length is < c.args.number * 512 + 512) ⊎ (c.args.number * 512 + 512 ≤ length is) → (e ≡ c.args.number * 512 + 512) ⊎ (e ≡ length is)
    by (inl under) = inr (omega (arith, under, c.loop-place-test.false, c.loop-place.invariant.to, c.min-end.ensures, c.saturating_add.ensures, many, c.len.ensures))
    by (inr over) = inl (omega (arith, over, c.loop-place-test.false, c.loop-place.invariant.to, c.min-end.ensures, c.saturating_add.ensures, many, c.len.ensures))
