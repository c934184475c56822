-- How far a request was gone through that isn't whole yet. Only the contracts of private functions speak of this.
use Rattle.std.specs.Prelude.{◌≤◌, ℕ, ◌+◌, ◌-◌, ◌*◌, List, [], ◌∷◌, Option, Some, None, IfSome, length, drop, string_capacity, Vec, vec_capacity}
use Rattle.std.specs.declared.alloc.Global.{Global}
use Rattle.eu_framing.specs.declared.walk.Walk.{Walk}
use Rattle.eu_framing.specs.declared.request.Begun.{Begun}
use Rattle.eu_framing.specs.Chunks.{Chunk, max_raw}
use Rattle.eu_framing.specs.Fields.{IsWithin}
use Rattle.eu_framing.specs.HeadSteps.{FindsHead}
use Rattle.eu_framing.specs.Scanning.{LineEndsAfter}
use Rattle.eu_framing.specs.Steps.{FindsLine, Took}

-- the chunk line at `start` doesn't end before `seen`
pub record IsSeen (start seen : ℕ) (buffer : List ℕ) : Type 0 where
  pub from : start ≤ seen
  pub within : seen ≤ length buffer
  pub behind : LineEndsAfter (seen - start) (drop start buffer)

-- the chunk line at `start` is this one, whole
pub record IsFound (room start : ℕ) (buffer : List ℕ) (found : ℕ × ℕ) : Type 0 where
  pub line : FindsLine room (drop start buffer) found
  pub inside : start + found.0 ≤ length buffer
  pub fits : found.0 ≤ room

-- what the walk knows of the line that it stands at
pub record IsHere (room : ℕ) (buffer : List ℕ) (walk : Walk) : Type 0 where
  pub seen : IsSeen walk.at walk.seen buffer
  pub line : IfSome walk.line (IsFound room walk.at buffer)

-- the walk through a chunked body that begins at `start`
pub record Stands (start : ℕ) (buffer : List ℕ) (walk : Walk) : Type 0 where
  pub took : (cs : List Chunk) × Took start walk.at buffer walk.body.items cs
  pub here : IsHere (max_raw - (walk.at - start)) buffer walk

-- the buffer begins with the head of a request, behind which the walk stands
pub record IsBegun (buffer : List ℕ) (begun : Begun) : Type 0 where
  pub head : FindsHead (Some begun.head) buffer
  pub framing : IsWithin begun.head.framing
  pub walk : Stands begun.head.len buffer begun.walk

-- so many bytes of memory these values have
abbrev pub values_memory : List (Vec ℕ Global) → ℕ
values_memory [] = 0
values_memory (value ∷ values) = vec_capacity value + values_memory values

-- and so many with their list, which has 24 bytes for each place
abbrev pub list_memory : Vec (Vec ℕ Global) Global → ℕ
list_memory values = values_memory values.items + 24 * vec_capacity values

-- so many bytes of memory what is known of a request has: its texts, its values and its body
abbrev pub begun_memory : Begun → ℕ
begun_memory b = string_capacity b.head.method + string_capacity b.head.target + list_memory b.head.origins + vec_capacity b.walk.body

-- the same, where there may be none
abbrev pub waiting_memory : Option Begun → ℕ
waiting_memory None = 0
waiting_memory (Some b) = begun_memory b
