-- What a writer was written, after several writes.
use Rattle.std.proofs.Common.{ℕ, List, [], ◌++◌, Option}
use Rattle.std.proofs.KnownBytes.{Appends-nil, Appends-trans}
use Rattle.std.specs.Io.KnownBytes.{Appends}
use Rattle.eu_lines.specs.Script.{Wrote}

-- nothing is written
pub wrote_none : (o : Option (List ℕ)) (P : List ℕ → Type 0) → P [] → Wrote o o P
wrote_none o P p = ([], Appends-nil o, p)

-- more is written
pub wrote_more : (o m n : Option (List ℕ)) (bs : List ℕ) (P Q : List ℕ → Type 0) → Wrote o m P → Appends m n bs → ((out : List ℕ) → P out → Q (out ++ bs)) → Wrote o n Q
wrote_more o m n bs P Q w a f = (w.0 ++ bs, Appends-trans o m n w.0 bs w.1 a, f w.0 w.2)

-- what is written is also this
pub wrote_so : (o n : Option (List ℕ)) (P Q : List ℕ → Type 0) → Wrote o n P → ((out : List ℕ) → P out → Q out) → Wrote o n Q
wrote_so o n P Q w f = (w.0, w.1, f w.0 w.2)
