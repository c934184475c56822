use Rattle.std.proofs.Common.{◌∙◌, ap, refl}
use Rattle.eu_routes.specs.Path.{without_host, from_slash}
use Rattle.eu_routes.proofs.paths.without_host.Goals as goal

pub returns-in-Some : goal.returns-in-Some
unfolding without_host
returns-in-Some c =
    let p = c.in-Some.ensures.some in
    rw p.0 (c.from_slash.ensures ∙ ap from_slash p.1)

pub returns-in-Some-after_prefix : goal.returns-in-Some-after_prefix
unfolding without_host
returns-in-Some-after_prefix c =
    let p = c.in-Some-after_prefix.ensures.some in
    rw (c.in-None.ensures.none, p.0) (c.from_slash-in-Some-after_prefix.ensures ∙ ap from_slash p.1)

pub returns-in-None-after_prefix : goal.returns-in-None-after_prefix
unfolding without_host
returns-in-None-after_prefix c = rw (c.in-None.ensures.none, c.in-None-after_prefix.ensures.none) refl
