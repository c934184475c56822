use Rattle.std.proofs.Common.{◌++◌, string_bytes, map-id, sym, ap, ◌∙◌, ℕ, List}
use Rattle.std.specs.List.{flat_map}
use Rattle.std.proofs.lemmas.Iterator.{YieldsList-from_chars}
use Rattle.std.proofs.lemmas.Iterator.Consumers.{YieldsList-end}
use Rattle.eu_admin.specs.Markup.{escaped_char}
use Rattle.eu_admin.proofs.markup.push_escaped.Goals as goal

pub returns : goal.returns
returns c =
    let done = YieldsList-end (YieldsList-from_chars c.args.text.now c.utf8.text cc) c.loop-character.yielded _ c.loop-character.yielded_by _ _ c.in-None.is c.next.ensures.steps in
    c.loop-character.invariant ∙ ap (λ (cs : List ℕ). string_bytes c.args.out.now ++ flat_map escaped_char cs) (sym (map-id c.loop-character.yielded) ∙ done.0)
