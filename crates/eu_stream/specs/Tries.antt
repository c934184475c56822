-- What a call of a reader or a writer gave
use Rattle.std.specs.Prelude.{Bool, true, false, Result, Ok, Err}
use Rattle.std.specs.IoError.{error_kind}
use Rattle.std.specs.declared.io.Error.{Error}
use Rattle.std.specs.declared.io.ErrorKind.{ErrorKind}
use Rattle.std.specs.declared.io.ErrorKind.TheVariants.{Interrupted}

abbrev pub is_interrupted : ErrorKind → Bool
is_interrupted Interrupted = true
is_interrupted _ = false

module _ {T : Type 0} where
  -- a signal came before the call was over
  abbrev pub was_interrupted : Result T Error → Bool
  was_interrupted (Ok _) = false
  was_interrupted (Err e) = is_interrupted (error_kind e)
