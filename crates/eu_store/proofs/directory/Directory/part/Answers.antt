use Rattle.std.proofs.Common.{◌≡◌, ◌-◌, ◌≤◌, ℕ, List, map, filter, take, drop, Some, sym, ap, ◌∙◌, arith}
use Rattle.std.specs.List.{prefix_len}
use Rattle.std.specs.Map.{keys_of}
use Rattle.std.specs.Option.{option_copied}
use Rattle.eu_base.specs.declared.names.Key.{Key}
use Rattle.eu_model.specs.View.{is_of}
use Rattle.eu_model.specs.declared.views.Listed.{Listed}
use Rattle.eu_store.specs.Order.{at_place, at_places, is_before, is_through, keys_held, IsInOrder}
use Rattle.eu_store.proofs.OrderLemmas.{before_holds_first, before_or_through, part_of, part_of_all, parted, through_holds_first}
use Rattle.eu_store.proofs.PlaceLemmas.{at_prefix}
use Rattle.eu_store.proofs.directory.Directory.part.Goals as goal

-- the place-list, as it is borrowed, is in order
in_order : (es : List (Key × Listed)) (ps qs : List ℕ) → ps ≡ qs → IsInOrder es qs → IsInOrder es ps
in_order es ps qs same order = ap (at_places (keys_of es)) same ∙ order

pub returns-in_default : goal.returns-in_default
returns-in_default c =
    let es = c.args.table.now.entries in
    part_of_all es c.as_slice-places.result.now (in_order es _ _ c.as_slice-places.ensures.value c.requires.0)
    ∙ ap (λ a. map (λ (k : Key). Some k) (filter (is_of (option_copied a)) (keys_held es))) (sym c.in_default.is)

pub count_within-low-requires : goal.count_within-low-requires
count_within-low-requires c =
    let es = c.args.table.now.entries in
    parted (is_before c.in-Some.app.now) es _ (in_order es _ _ c.as_slice-places.ensures.value c.requires.0) (before_holds_first c.in-Some.app.now es)

pub count_within-high-requires : goal.count_within-high-requires
count_within-high-requires c =
    let es = c.args.table.now.entries in
    parted (is_through c.in-Some.app.now) es _ (in_order es _ _ c.as_slice-places.ensures.value c.requires.0) (through_holds_first c.in-Some.app.now es)

-- the first place of an application, and the one behind its last
counts : (app : List ℕ) (es : List (Key × Listed)) (ps : List ℕ) → IsInOrder es ps
    → (prefix_len (at_place (is_before app) es) ps ≡ prefix_len (is_before app) (keys_held es)) × (prefix_len (at_place (is_through app) es) ps ≡ prefix_len (is_through app) (keys_held es))
counts app es ps order = (at_prefix (is_before app) (keys_of es) ps (keys_held es) order, at_prefix (is_through app) (keys_of es) ps (keys_held es) order)

rising : (app : List ℕ) (es : List (Key × Listed)) (ps qs : List ℕ) (low high : ℕ) → ps ≡ qs → IsInOrder es qs → low ≡ prefix_len (at_place (is_before app) es) ps → high ≡ prefix_len (at_place (is_through app) es) ps → low ≤ high
rising app es ps qs low high same order at_low at_high =
    let each = counts app es ps (in_order es ps qs same order) in
    omega (arith, at_low, at_high, each.0, each.1, before_or_through app es)

pub slice_bounds-result-count : goal.slice_bounds-result-count
slice_bounds-result-count c =
    rising c.in-Some.app.now c.args.table.now.entries _ _ c.count_within-low.result c.count_within-high.result c.as_slice-places.ensures.value c.requires.0 c.count_within-low.ensures.value c.count_within-high.ensures.value

pub slice_bounds-result-start : goal.slice_bounds-result-start
slice_bounds-result-start c =
    rising c.in-Some.app.now c.args.table.now.entries _ _ c.count_within-low.result c.count_within-high.result c.as_slice-places.ensures.value c.requires.0 c.count_within-low.ensures.value c.count_within-high.ensures.value

pub returns : goal.returns
returns c =
    let es = c.args.table.now.entries in
    let app = c.in-Some.app.now in
    let ps = c.as_slice-places.result.now in
    let order = in_order es ps _ c.as_slice-places.ensures.value c.requires.0 in
    let each = counts app es ps order in
    ap (at_places (keys_of es)) (λ i. take ((c.count_within-high.ensures.value ∙ each.1) i - (c.count_within-low.ensures.value ∙ each.0) i) (drop ((c.count_within-low.ensures.value ∙ each.0) i) ps))
    ∙ part_of app es ps order
    ∙ ap (λ a. map (λ (k : Key). Some k) (filter (is_of (option_copied a)) (keys_held es))) (sym c.in-Some.is)
