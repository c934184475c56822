use Rattle.eu_hash.specs.Keyed.{key_of}
use Rattle.eu_hash.specs.declared.key.HashKey.{HashKey}
use Rattle.eu_hash.proofs.key.HashKey.new.Goals as goal

pub returns : goal.returns
unfolding key_of
returns c = λ i. let k : HashKey = record { begun = c.begin.ensures i } in k
