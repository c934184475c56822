-- The message that begins a list of bytes, or the fault of one that is broken, and what follows it
use Rattle.std.specs.Prelude.{ℕ, List, Option, Some, None, ◌==◌, ◌≡◌, ◌<◌, ◌≤◌, ◌⊎◌, [], ◌++◌, length, take, map, Result, Ok, Err, Bool, true, string_bytes}
use Rattle.std.specs.Io.KnownBytes.{prepend_known, Keeps}
use Rattle.std.specs.List.{before_first, after_first}
use Rattle.httparse.specs.Grammar.{LineEnd, print_blank, RequestHead, print_request, ReadsRequest, HasNoRequest, NeverHasRequest}
use Rattle.httparse.specs.Spans.{name_and_value, RequestExceeds}
use Rattle.eu_base.specs.declared.faults.Fault.{Fault}
use Rattle.eu_framing.specs.declared.fields.Framing.{Framing}
use Rattle.eu_framing.specs.declared.fields.Framing.TheVariants.{NoBody, Sized, Chunked}
use Rattle.eu_framing.specs.Fields.{Header, framing_of, closes, is_replicated, origins_of}
use Rattle.eu_framing.specs.Chunks.{ReadsChunked, BreaksChunked}
use Rattle.eu_framing.specs.declared.request.Request.{Request}
use Rattle.eu_base.specs.declared.faults.Fault.TheVariants as faults

-- ---- the bytes of a connection that are still to come.

-- the bytes read and not yet used, and then those that the reader has left, where those are known
abbrev pub pending : List ℕ → Option (List ℕ) → Option (List ℕ)
pending buffer left = prepend_known buffer left

-- P of the known bytes; where they aren't known, of some bytes
abbrev pub OfBytes : Option (List ℕ) → (List ℕ → Type 0) → Type 0
OfBytes None P = (bytes : List ℕ) × P bytes
OfBytes (Some bytes) P = P bytes

-- P of the known bytes before and after; where they aren't known, of some bytes
abbrev pub Between : Option (List ℕ) → Option (List ℕ) → (List ℕ → List ℕ → Type 0) → Type 0
Between None new P = (bytes : List ℕ) × (rest : List ℕ) × P bytes rest
Between (Some old) None P = ⊥
Between (Some old) (Some new) P = P old new

-- ---- the parts of a request's target (RFC 9112, section 3.2; RFC 3986, section 3.4).

abbrev pub question_mark : ℕ
question_mark = 63

-- all before the first question mark
abbrev pub path_of : List ℕ → List ℕ
path_of target = before_first (λ b. b == question_mark) target

-- all behind the first question mark; nothing where there is none
abbrev pub query_of : List ℕ → List ℕ
query_of target = after_first (λ b. b == question_mark) target

-- ---- the next request of a list of bytes.

abbrev pub max_head : ℕ
max_head = 8192

abbrev pub max_fields : ℕ
max_fields = 64

-- The head (RFC 9112, sections 2 to 5).

-- the bytes are this head, within its limits, and then the rest
pub record HasHead (bytes : List ℕ) (h : RequestHead) (rest : List ℕ) : Type 0 where
  pub reads : ReadsRequest bytes h rest
  pub short : length (print_request h) ≤ max_head
  pub few : length h.fields ≤ max_fields

-- the names and values of its fields
abbrev pub headers_of : RequestHead → List Header
headers_of h = map name_and_value h.fields

-- the bytes are empty lines alone
abbrev pub IsBlank : List ℕ → Type 0
IsBlank bytes = (ends : List LineEnd) × (bytes ≡ print_blank ends)

-- the bytes end before a head, or after empty lines alone
abbrev pub IsEnd : List ℕ → Type 0
IsEnd bytes = (length bytes < max_head) × IsBlank bytes

-- no head is whole within its limit
abbrev pub IsLongHead : List ℕ → Type 0
IsLongHead bytes = (max_head ≤ length bytes) × HasNoRequest (take max_head bytes)

-- more than so many fields are whole within its limit
abbrev pub HasManyFields : List ℕ → Type 0
HasManyFields bytes = RequestExceeds max_fields (take max_head bytes)

-- no bytes can follow that make it a head
abbrev pub IsBrokenHead : List ℕ → Type 0
IsBrokenHead bytes = NeverHasRequest (take max_head bytes)

-- the bytes end inside a head
abbrev pub IsCutHead : List ℕ → Type 0
IsCutHead bytes = (length bytes < max_head) × HasNoRequest bytes × ¬ (IsBlank bytes)

-- why the bytes begin with no head
abbrev pub IsHeadFault : List ℕ → Fault → Type 0
IsHeadFault bytes fault =
    ((fault ≡ faults.HeadTooLong) × (IsLongHead bytes ⊎ HasManyFields bytes))
    ⊎ ((fault ≡ faults.BadHead) × (IsBrokenHead bytes ⊎ IsCutHead bytes))

-- The body (RFC 9112, section 6).

-- the bytes are so many of a body, and then the rest
abbrev pub ReadsSized : ℕ → List ℕ → List ℕ → List ℕ → Type 0
ReadsSized n bytes body rest = (length body ≡ n) × (bytes ≡ body ++ rest)

-- the bytes end inside a body of so many
abbrev pub BreaksSized : ℕ → List ℕ → Fault → Type 0
BreaksSized n bytes fault = (fault ≡ faults.BadLength) × (length bytes < n)

-- the bytes are a body of that framing, and then the rest
abbrev pub ReadsBody : Framing → List ℕ → List ℕ → List ℕ → Type 0
ReadsBody NoBody bytes body rest = (body ≡ []) × (rest ≡ bytes)
ReadsBody (Sized n) bytes body rest = ReadsSized n bytes body rest
ReadsBody Chunked bytes body rest = ReadsChunked bytes body rest

-- why the bytes begin with no body of that framing
abbrev pub BreaksBody : Framing → List ℕ → Fault → Type 0
BreaksBody NoBody bytes fault = ⊥
BreaksBody (Sized n) bytes fault = BreaksSized n bytes fault
BreaksBody Chunked bytes fault = BreaksChunked bytes fault

-- The request.

-- how the body that follows a head is framed, or the first fault of its fields
abbrev pub framed : RequestHead → Result Framing Fault
framed h = framing_of h.minor (headers_of h)

-- a head and its body
pub record Message : Type 0 where
  pub head : RequestHead
  pub body : List ℕ

-- the bytes are this request, and then the rest
abbrev pub ReadsMessage : List ℕ → Message → List ℕ → Type 0
ReadsMessage bytes m rest =
    (after : List ℕ) × HasHead bytes m.head after
    × (framing : Framing) × (framed m.head ≡ Ok framing) × ReadsBody framing after m.body rest

-- the bytes begin with a head, whose fields or whose body have this fault
abbrev pub BreaksMessage : List ℕ → Fault → Type 0
BreaksMessage bytes fault =
    (h : RequestHead) × (after : List ℕ) × HasHead bytes h after
    × ((framed h ≡ Err fault) ⊎ ((framing : Framing) × (framed h ≡ Ok framing) × BreaksBody framing after fault))

-- the bytes begin with no request, by this fault
abbrev pub IsFault : List ℕ → Fault → Type 0
IsFault bytes fault = IsHeadFault bytes fault ⊎ BreaksMessage bytes fault

-- the bytes begin with no whole request: they end before one, or have a fault
abbrev pub IsCut : List ℕ → Type 0
IsCut bytes = IsEnd bytes ⊎ ((fault : Fault) × IsFault bytes fault)

-- ---- what a reader of requests answers: the next request of a list of bytes, or the end.

-- the request is that message, as far as it matters here
pub record IsRequest (request : Request) (m : Message) : Type 0 where
  pub method : string_bytes request.method ≡ m.head.method
  pub target : string_bytes request.target ≡ m.head.target
  pub minor : request.minor ≡ m.head.minor
  pub closes_is : request.closes ≡ closes m.head.minor (headers_of m.head)
  pub replicated : request.replicated ≡ is_replicated (headers_of m.head)
  pub origins : map (λ o. o.items) request.origins.items ≡ origins_of (headers_of m.head)
  pub body : request.body.items ≡ m.body

-- the bytes begin with that request, and the rest is behind it; or they end, and nothing of them is used
abbrev pub FindsNext : Option Request → List ℕ → List ℕ → Type 0
FindsNext None bytes rest = IsEnd bytes × (rest ≡ bytes)
FindsNext (Some request) bytes rest = (m : Message) × IsRequest request m × ReadsMessage bytes m rest

-- the fault comes from outside: no memory was left; or the reader failed, no byte was lost, and those in the buffer begin with no whole request
abbrev pub Interrupts : Bool → Option (List ℕ) → Option (List ℕ) → List ℕ → Fault → Type 0
Interrupts failed old new buffer fault = (fault ≡ faults.OutOfMemory) ⊎ ((fault ≡ faults.Read) × (failed ≡ true) × Keeps old new × IsCut buffer)
