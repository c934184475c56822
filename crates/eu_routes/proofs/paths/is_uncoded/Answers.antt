use Rattle.std.proofs.Common.{◌≢◌, ◌<◌, arith}
use Rattle.std.proofs.lemmas.List.Elements.{All-from_get_or}
use Rattle.eu_routes.proofs.paths.is_uncoded.Goals as goal

pub returns : goal.returns
returns c = λ _. All-from_get_or (λ b. b ≢ 37) c.args.segment.now 0 (λ k l. c.loop-byte.invariant k (omega (arith, l)))
