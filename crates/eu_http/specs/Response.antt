-- Responses: their text, and what is answered for what came of a request
use Rattle.std.specs.Prelude.{ℕ, Bool, List, [], ◌++◌, drop, length, codes, if◌then◌else◌, ◌==◌, ◌∷◌, map, Option, Some, None, Result, Ok, Err, string_bytes}
use Rattle.std.specs.Fmt.{decimal}
use Rattle.http.specs.StatusCode.{status_text}
use Rattle.serde_json.specs.Written.{compact_text}
use Rattle.eu_base.specs.declared.faults.Fault.{Fault}
use Rattle.eu_base.specs.Fault.{fault_number}
use Rattle.eu_base.specs.declared.instances.Instance.{Instance}
use Rattle.eu_model.specs.declared.commands.Reply.{Reply}
use Rattle.eu_model.specs.declared.status_counts.StatusCounts.{StatusCounts}
use Rattle.eu_model.specs.declared.views.Counts.{Counts}
use Rattle.eu_model.specs.declared.views.Listed.{Listed}
use Rattle.eu_json.specs.Batch.{answers_tree}
use Rattle.eu_json.specs.Tree.{held_tree, application_tree, applications_tree}
use Rattle.eu_json.specs.declared.batch_write.ItemAnswer.{ItemAnswer}
use Rattle.eu_page.specs.Page.{shown_page}
use Rattle.eu_model.specs.declared.asks.Answer.{Answer}
use Rattle.eu_model.specs.declared.asks.Answer.TheVariants.{Did, Saw}
use Rattle.eu_http.specs.declared.exchange.Outcome.{Outcome}
use Rattle.eu_http.specs.declared.exchange.Outcome.TheVariants.{Refused, Forbidden, Answers}
use Rattle.eu_http.specs.declared.wanted.Wanted.{Wanted}
use Rattle.eu_http.specs.declared.response.Content.{Content as Made}
use Rattle.eu_http.specs.declared.response.Response.{Response as Draft}
use Rattle.eu_base.specs.declared.faults.Fault.TheVariants as faults
use Rattle.eu_model.specs.declared.commands.Reply.TheVariants as reply
use Rattle.eu_model.specs.declared.views.View.TheVariants as seen
use Rattle.eu_http.specs.declared.wanted.Wanted.TheVariants as wanted
use Rattle.eu_http.specs.declared.response.Content.TheVariants as made

-- ---- the bytes of a response (RFC 9112, section 4)

-- what follows the head
pub data Content : Type 0 where
  Nothing : Content
  -- the text of a JSON value (RFC 8259)
  Json : List ℕ → Content
  -- plain text, in UTF-8
  Plain : List ℕ → Content

-- a status (RFC 9110, section 15) and what is said with it
pub record Response : Type 0 where
  pub status : ℕ
  pub content : Content

-- a response without content
abbrev pub bare : ℕ → Response
bare status = record { status = status; content = Nothing }

abbrev pub line : List ℕ → List ℕ
line text = text ++ codes "\r\n"

-- the bytes of a content
abbrev pub text_of : Content → List ℕ
text_of Nothing = []
text_of (Json text) = text
text_of (Plain text) = text

-- what it is, where there is one (RFC 9110, section 8.3)
abbrev pub type_line : Content → List ℕ
type_line Nothing = []
type_line (Json text) = line (codes "Content-Type: application/json")
type_line (Plain text) = line (codes "Content-Type: text/plain; charset=utf-8")

-- how many bytes it has; 204 never has any and says none (RFC 9110, section 8.6)
abbrev pub length_line : ℕ → ℕ → List ℕ
length_line status len = if status == 204 then [] else line (codes "Content-Length: " ++ decimal len)

-- no request follows on the connection (RFC 9112, section 9.6)
abbrev pub close_line : Bool → List ℕ
close_line close = if close then line (codes "Connection: close") else []

-- the status line, the fields and an empty line
abbrev pub head : Response → Bool → List ℕ
head r close =
    line (codes "HTTP/1.1 " ++ status_text r.status)
    ++ (type_line r.content ++ (length_line r.status (length (text_of r.content)) ++ (close_line close ++ line [])))

-- the head and the content
abbrev pub print : Response → Bool → List ℕ
print r close = head r close ++ text_of r.content

-- ---- what a request is answered

-- ---- refusals

-- the status of a request that was refused; what the registry itself refuses is 503
abbrev pub status_of : Fault → ℕ
status_of faults.NoRoute = 404
status_of faults.BodyTooLong = 413
status_of faults.BadEncoding = 415
status_of faults.HeadTooLong = 431
status_of faults.TooLong = 400
status_of faults.NotJson = 400
status_of faults.MissingId = 400
status_of faults.MissingHost = 400
status_of faults.MissingIp = 400
status_of faults.MissingApp = 400
status_of faults.WrongApp = 400
status_of faults.MissingCenter = 400
status_of faults.MissingCenterName = 400
status_of faults.NotWhole = 400
status_of faults.BadStamp = 400
status_of faults.BadDuration = 400
status_of faults.BadBatch = 400
status_of faults.BadHead = 400
status_of faults.BadLength = 400
status_of faults.BadChunk = 400
status_of faults.BadPath = 400
status_of faults.BadValue = 400
status_of fault = 503

-- `{"fault":N}`
abbrev pub fault_text : Fault → List ℕ
fault_text fault = codes "{\"fault\":" ++ (decimal (fault_number fault) ++ codes "}")

abbrev pub telling : ℕ → Fault → Response
telling status fault = record { status = status; content = Json (fault_text fault) }

-- a fault of the request: there is no such place, or what is wrong with it
abbrev pub refused : Fault → Response
refused fault = if status_of fault == 404 then bare 404 else telling (status_of fault) fault

-- ---- replies

abbrev pub not_found : Response
not_found = bare 404

-- what was done; a conflict tells the instance that is held. Of what no request asks for there is nothing to tell
abbrev pub did : Reply → Response
did (reply.Registered fresh) = bare 204
did reply.Done = bare 200
did reply.NotFound = not_found
did reply.Stale = not_found
did (reply.Conflict instance) = record { status = 409; content = Json (compact_text (held_tree instance None)) }
did other = not_found

-- ---- batches

-- the status of an item of a batch is that of the reply's own response, but 200 for a registration
abbrev pub code_of : Reply → ℕ
code_of (reply.Registered fresh) = 200
code_of other = (did other).status

-- a conflict tells the instance that is held
abbrev pub entity_of : Reply → Option Instance
entity_of (reply.Conflict instance) = Some instance
entity_of other = None

-- what is told of one command of a batch; the registry's own refusals are 503
abbrev pub item_of : Result Answer Fault → ItemAnswer
item_of (Ok (Did r)) = record { code = code_of r; instance = entity_of r }
item_of (Ok (Saw v)) = record { code = 404; instance = None }
item_of (Err fault) = record { code = 503; instance = None }

-- a batch is answered item by item, whatever came of each
abbrev pub batch : List ItemAnswer → Response
batch items = record { status = 200; content = Json (compact_text (answers_tree items)) }

-- ---- views

abbrev pub one : Option Listed → Response
one None = not_found
one (Some l) = record { status = 200; content = Json (compact_text (held_tree l.instance (Some l.times))) }

-- an application that holds no lease isn't there
abbrev pub of_app : List Listed → Response
of_app [] = not_found
of_app (l ∷ ls) = record { status = 200; content = Json (compact_text (application_tree (l ∷ ls))) }

abbrev pub all : List Listed → Response
all ls = record { status = 200; content = Json (compact_text (applications_tree ls)) }

-- the status page
unfoldable pub page : Counts → StatusCounts → Response
page c statuses = record { status = 200; content = Plain (shown_page c statuses) }

-- ---- answers

-- an answer that isn't of the kind that was wanted is none
abbrev pub told_change : List (Result Answer Fault) → Response
told_change (Ok (Did r) ∷ []) = did r
told_change other = not_found

abbrev pub told_batch : List (Result Answer Fault) → Response
told_batch answers = batch (map item_of answers)

abbrev pub told_one : List (Result Answer Fault) → Response
told_one (Ok (Saw (seen.One l)) ∷ []) = one l
told_one other = not_found

abbrev pub told_app : List (Result Answer Fault) → Response
told_app (Ok (Saw (seen.OfApp ls)) ∷ []) = of_app ls
told_app other = not_found

abbrev pub told_all : List (Result Answer Fault) → Response
told_all (Ok (Saw (seen.All ls)) ∷ []) = all ls
told_all other = not_found

abbrev pub told_page : List (Result Answer Fault) → Response
told_page (Ok (Saw (seen.Page c statuses)) ∷ []) = page c statuses
told_page other = not_found

abbrev pub answered : Wanted → List (Result Answer Fault) → Response
answered wanted.Change answers = told_change answers
answered wanted.Batch answers = told_batch answers
answered wanted.One answers = told_one answers
answered wanted.OfApp answers = told_app answers
answered wanted.All answers = told_all answers
answered wanted.Page answers = told_page answers

-- the first fault of the registry
abbrev pub first_fault : List (Result Answer Fault) → Option Fault
first_fault [] = None
first_fault (Ok a ∷ rest) = first_fault rest
first_fault (Err fault ∷ rest) = Some fault

-- the fault that is told in place of all answers; a batch tells those of its items one by one
abbrev pub fault_of : Wanted → List (Result Answer Fault) → Option Fault
fault_of wanted.Batch answers = None
fault_of other answers = first_fault answers

-- a fault of the registry comes before all answers
abbrev pub or_fault : Option Fault → Wanted → List (Result Answer Fault) → Response
or_fault None w answers = answered w answers
or_fault (Some fault) w answers = telling 503 fault

abbrev pub response_with : Wanted → List (Result Answer Fault) → Response
response_with w answers = or_fault (fault_of w answers) w answers

-- what a request is answered, by what came of it
abbrev pub response_to : Outcome → Response
response_to (Refused fault) = refused fault
response_to Forbidden = bare 403
response_to (Answers wanted answers) = response_with wanted answers.items

-- the bytes of the response
abbrev pub response : Outcome → Bool → List ℕ
response outcome close = print (response_to outcome) close

-- how many bytes are left free before a content, for the head of its response
abbrev pub head_room : ℕ
head_room = 128

-- a response as it is made
abbrev pub content_of : Made → Content
content_of made.Nothing = Nothing
content_of (made.Json bytes) = Json (drop head_room bytes.items)
content_of (made.Plain text) = Plain (string_bytes text)

abbrev pub response_of : Draft → Response
response_of draft = record { status = draft.status; content = content_of draft.content }
