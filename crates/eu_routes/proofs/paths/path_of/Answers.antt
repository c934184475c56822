use Rattle.std.proofs.Common.{◌∙◌, ap, arith, refl}
use Rattle.std.proofs.lemmas.Str.Pattern.{strip_suffix_char}
use Rattle.eu_routes.specs.Path.{without_slash}
use Rattle.eu_routes.proofs.PathLemmas.{stripped}
use Rattle.eu_routes.proofs.paths.path_of.Goals as goal

pub returns : goal.returns
returns c =
    let path = c.without_host-path.result.now in
    let cases = strip_suffix_char 47 path c.strip_suffix.result c.strip_suffix.ensures.cases (omega arith) in
    rw c.unwrap_or.ensures (stripped path c.strip_suffix.result c.without_host-path.result cases refl ∙ ap without_slash c.without_host-path.ensures)
