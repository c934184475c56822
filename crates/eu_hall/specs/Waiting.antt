-- What callers see of what is to be sent.
use Rattle.std.specs.Prelude.{ℕ, ◌≤◌, Bool, List}

-- the bytes that are still to be sent, and whether a write into it has failed
pub record Waiting : Type 0 where
  pub rest : List ℕ
  pub has_failed : Bool

-- of the bytes that are kept no more are sent than there are, and where all are, little memory is held
pub record IsLean (kept sent capacity : ℕ) : Type 0 where
  pub within : sent ≤ kept
  pub freed : kept ≤ sent → capacity ≤ 256

-- each is a stream of its own: it has no writer behind it
abbrev pub stream_of : Waiting → ℕ
stream_of _ = 0
