use Rattle.std.proofs.Common.{◌++◌, ◌∷◌, [], ◌∙◌, get_or, sym}
use Rattle.std.specs.Char.{to_ascii_uppercase}
use Rattle.std.proofs.lemmas.List.{map_more, take_more}
use Rattle.eu_base.proofs.NameLemmas.{not_small_stays}
use Rattle.eu_base.proofs.names.has_small_letter.Goals as goal

pub loop-byte-preserved : goal.loop-byte-preserved
loop-byte-preserved c =
    let t = c.args.bytes.now in
    let i = c.loop-byte.byte-index in
    let same = not_small_stays (get_or t i 0) (sym c.is_ascii_lowercase.ensures.value ∙ c.if-is_ascii_lowercase.false) in
    map_more to_ascii_uppercase t i 0 c.loop-byte-test.true ∙ (λ j. c.loop-byte.invariant j ++ same j ∷ []) ∙ sym (take_more t i 0 c.loop-byte-test.true)
