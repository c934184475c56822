use Rattle.std.proofs.lemmas.Slice.Eq.{slice_eq-Decides}
use Rattle.eu_base.proofs.KeyLemmas.{key_eq-Decides}
use Rattle.eu_base.proofs.names.Items+Key.same.Goals as goal

pub returns : goal.returns
returns c = rw (← c.as_slice.ensures, ← c.as_slice-2.ensures) (slice_eq-Decides key_eq-Decides _ _ _ c.eq.ensures)
