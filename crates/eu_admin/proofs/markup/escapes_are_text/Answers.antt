use Rattle.eu_admin.proofs.MarkupLemmas.{inert_all}
use Rattle.std.specs.Str.{chars}
use Rattle.eu_admin.proofs.markup.escapes_are_text.Goals as goal

pub returns : goal.returns
returns c = λ text. inert_all (chars text)
