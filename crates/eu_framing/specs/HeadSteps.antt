-- What is kept of a head. Only the contracts of private functions speak of this.
use Rattle.std.specs.Prelude.{◌≡◌, ◌⊎◌, ◌≤◌, List, ℕ, ◌++◌, Option, Some, None, Result, Ok, Err, drop, length, map, string_bytes}
use Rattle.httparse.specs.Grammar.{RequestHead}
use Rattle.httparse.specs.Spans.{IsRequestAt}
use Rattle.httparse.specs.declared.spans.HeaderSpan.{HeaderSpan}
use Rattle.httparse.specs.declared.spans.RequestSpans.{RequestSpans}
use Rattle.eu_base.specs.declared.faults.Fault.{Fault}
use Rattle.eu_base.specs.declared.faults.Fault.TheVariants as faults
use Rattle.eu_framing.specs.declared.request.Head.{Head}
use Rattle.eu_framing.specs.declared.request.Request.{Request}
use Rattle.eu_framing.specs.Fields.{closes, is_replicated, origins_of}
use Rattle.eu_framing.specs.Message.{max_head, headers_of, framed, HasHead, IsEnd}

-- it is what is kept of that head
pub record IsHeadOf (h : RequestHead) (head : Head) : Type 0 where
  pub method : string_bytes head.method ≡ h.method
  pub target : string_bytes head.target ≡ h.target
  pub minor : head.minor ≡ h.minor
  pub closes_is : head.closes ≡ closes h.minor (headers_of h)
  pub replicated : head.replicated ≡ is_replicated (headers_of h)
  pub origins : map (λ o. o.items) head.origins.items ≡ origins_of (headers_of h)
  pub framing : framed h ≡ Ok head.framing

-- it is what is kept of the head that the spans cover, or that head's fields have the fault
abbrev pub GivesHead : List ℕ → List HeaderSpan → RequestSpans → Result Head Fault → Type 0
GivesHead text spans r (Ok head) = (h : RequestHead) → IsRequestAt text spans r h → IsHeadOf h head
GivesHead text spans r (Err fault) = (fault ≡ faults.OutOfMemory) ⊎ ((h : RequestHead) → IsRequestAt text spans r h → framed h ≡ Err fault)

-- the buffer begins with the head, or ends before one
abbrev pub FindsHead : Option Head → List ℕ → Type 0
FindsHead None buffer = IsEnd buffer
FindsHead (Some head) buffer =
    (h : RequestHead) × ((more : List ℕ) → HasHead (buffer ++ more) h (drop head.len buffer ++ more)) × IsHeadOf h head
    × (head.len ≤ length buffer) × (head.len ≤ max_head)

-- what is made of the head and the body
pub record Makes (request : Request) (head : Head) : Type 0 where
  pub method : request.method ≡ head.method
  pub target : request.target ≡ head.target
  pub minor : request.minor ≡ head.minor
  pub closes : request.closes ≡ head.closes
  pub replicated : request.replicated ≡ head.replicated
  pub origins : request.origins ≡ head.origins
