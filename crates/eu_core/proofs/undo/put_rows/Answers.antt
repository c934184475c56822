use Rattle.std.proofs.Common.{◌≡◌, ◌≤◌, ◌<◌, ◌-◌, List, ℕ, None, get_or, min, map, length, sym, refl, arith}
use Rattle.std.proofs.lemmas.List.{get_or-map, length-map}
use Rattle.eu_base.specs.declared.names.Key.{Key}
use Rattle.eu_store.proofs.UndoLemmas.{put_more, with_values-short}
use Rattle.eu_core.proofs.undo.put_rows.Goals as goal

abbrev id : Key → List ℕ
id k = k.id

abbrev ids : List Key → List (List ℕ)
ids keys = map id keys

pub loop-left-init : goal.loop-left-init
loop-left-init c =
    let a = c.args in
    let least : c.min-left.result ≡ min (length a.keys.now) (length a.rows.now) = omega (arith, c.min-left.ensures) in
    let least_ids : c.min-left.result ≡ min (length (ids a.keys.now)) (length a.rows.now) = omega (arith, least, length-map a.keys.now id) in
    record {
      within = omega (arith, least);
      within_rows = omega (arith, least);
      same = with_values-short a.overrides.now.rows (ids a.keys.now) a.rows.now c.min-left.result least_ids;
    }

pub loop-left-preserved : goal.loop-left-preserved
loop-left-preserved c =
    let a = c.args in
    let i = c.loop-left.invariant in
    let k = c.index-keys-left.result in
    let within : c.loop-left.left ≤ length (ids a.keys.now) = omega (arith, i.within, length-map a.keys.now id) in
    let below : c.loop-left.left - 1 < length a.keys.now = omega (arith, c.loop-left-test.true, i.within) in
    record {
      within = omega (arith, i.within);
      within_rows = omega (arith, i.within_rows);
      same = put_more c.loop-left.overrides.rows c.put_row.new.overrides.rows _ (ids a.keys.now) a.rows.now c.loop-left.left (get_or a.keys.now (c.loop-left.left - 1) k).id k.id (get_or a.rows.now (c.loop-left.left - 1) None) None
          c.loop-left-test.true within i.within_rows (sym (get_or-map id a.keys.now (c.loop-left.left - 1) k k.id below)) refl c.in_ok-put_row.ensures i.same;
    }
