use Rattle.std.proofs.Common.{sym, get_or}
use Rattle.std.proofs.lemmas.List.{map_more}
use Rattle.httparse.specs.Spans.{header_bytes}
use Rattle.httparse.specs.declared.spans.HeaderSpan.{HeaderSpan}
use Rattle.eu_framing.proofs.FieldLemmas.{values_none, found_more}
use Rattle.eu_framing.proofs.fields.find_values.Goals as goal

pub loop-header-init : goal.loop-header-init
loop-header-init c = rw c.new-found.ensures.items (sym (values_none c.args.name.now))

pub loop-header-preserved : goal.loop-header-preserved
loop-header-preserved c =
    let zero : HeaderSpan = record { name = record { start = 0; end = 0 }; value = record { start = 0; end = 0 } } in
    let h = header_bytes c.args.text.now (get_or c.args.headers.now c.loop-header.header-index zero) in
    let more = map_more (header_bytes c.args.text.now) c.args.headers.now c.loop-header.header-index zero c.loop-header-test.true in
    found_more c.args.name.now _ _ h c.loop-header.found.items c.add_named.new.found.items more c.in_ok-add_named.ensures c.loop-header.invariant
