use mathlib.Core.Path.{refl}
use Rattle.eu_hash.specs.Keyed.{begun}
use Rattle.eu_hash.proofs.hasher.KeyedHasher.begin.Goals as goal

pub returns : goal.returns
unfolding begun
returns c = refl
