-- What comes behind a session, and is read and dropped
use Rattle.std.specs.Prelude.{◌≡◌, ◌==◌, ℕ, ◌+◌, List, Option, Result, Ok, Err, Bool, true, false, length, if◌then◌else◌}
use Rattle.std.specs.IoError.{error_kind}
use Rattle.std.specs.Io.KnownBytes.{Consumes}
use Rattle.std.specs.declared.io.Error.{Error}
use Rattle.std.specs.declared.io.ErrorKind.{ErrorKind}
use Rattle.std.specs.declared.io.ErrorKind.TheVariants.{WouldBlock}
use Rattle.eu_accept.specs.declared.behind.Behind.{Behind}
use Rattle.eu_accept.specs.declared.behind.Behind.TheVariants.{Came, Later, End}

-- a read that would have waited says that more may come
abbrev pub may_come : ErrorKind → Bool
may_come WouldBlock = true
may_come _ = false

-- what a read gave: some bytes, or none, where the peer has ended; any other error ends it, too
abbrev pub behind_by : Result ℕ Error → Behind
behind_by (Ok count) = if count == 0 then End else Came count
behind_by (Err error) = if may_come (error_kind error) then Later else End

-- how many bytes came
abbrev pub count_of : Behind → ℕ
count_of (Came count) = count
count_of Later = 0
count_of End = 0

-- some bytes were read, and as many were counted beside those before
pub record Drops (old new : Option (List ℕ)) (before after : ℕ) : Type 0 where
  pub bytes : List ℕ
  pub count : after ≡ before + length bytes
  pub read : Consumes old new bytes
