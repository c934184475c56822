use mathlib.Core.Path.{refl}
use Rattle.std.specs.Hash.FoldHasher.{folded_multiply}
use Rattle.eu_hash.proofs.hasher.folded_multiply.Goals as goal

pub returns : goal.returns
unfolding folded_multiply
returns c = refl
