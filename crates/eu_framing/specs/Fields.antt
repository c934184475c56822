-- What the fields of a head say, from the list of their names and values.
use Rattle.std.specs.Prelude.{ℕ, ◌≤◌, Bool, not, ◌&&◌, ◌||◌, List, [], ◌∷◌, map, filter, length, Result, Ok, Err, if◌then◌else◌, is_some, nat_lt, ◌==◌, codes, bytes_eq, ⊤}
use Rattle.std.specs.List.{list_all, list_any, slice_split}
use Rattle.std.specs.Char.{to_ascii_lowercase}
use Rattle.std.specs.Str.Parse.{digits_value}
use Rattle.httparse.specs.Ascii.{comma}
use Rattle.httparse.specs.Grammar.{trim_ows}
use Rattle.eu_base.specs.declared.faults.Fault.{Fault}
use Rattle.eu_base.specs.declared.faults.Fault.TheVariants as faults
use Rattle.eu_base.specs.Digits.{digits}
use Rattle.eu_framing.specs.declared.fields.Framing.{Framing}
use Rattle.eu_framing.specs.declared.fields.Framing.TheVariants.{NoBody, Sized, Chunked}

-- a name and a value
abbrev pub Header : Type 0
Header = List ℕ × List ℕ

-- the two texts are one, whatever the case of their ASCII letters
abbrev pub is_same_text : List ℕ → List ℕ → Bool
is_same_text a b = bytes_eq (map to_ascii_lowercase a) (map to_ascii_lowercase b)

-- the values of the fields of that name, in order
unfoldable pub values_of : List ℕ → List Header → List (List ℕ)
values_of name headers = map (λ h. h.1) (filter (λ h. is_same_text h.0 name) headers)

-- a 1.1 head has exactly one Host (RFC 9112, section 3.2)
abbrev pub has_host : ℕ → List (List ℕ) → Bool
has_host minor hosts = (length hosts == 1) || not (minor == 1)

-- 1 to 19 digits
abbrev pub is_length : List ℕ → Bool
is_length v = nat_lt 0 (length v) && is_some (digits v)

-- the framing that a Content-Length states (RFC 9112, section 6.2)
abbrev pub one_length : List ℕ → Result Framing Fault
one_length v = if is_length v then Ok (Sized (digits_value 10 v)) else Err faults.BadLength

-- the framing that a Transfer-Encoding states (RFC 9112, section 6.1)
abbrev pub one_coding : ℕ → List ℕ → Result Framing Fault
one_coding minor v = if is_same_text v (codes "chunked") && (minor == 1) then Ok Chunked else Err faults.BadLength

-- the framing that the Content-Length fields and the Transfer-Encoding fields state together (RFC 9112, section 6.3):
-- one field at most of both kinds
abbrev pub stated_by : ℕ → List (List ℕ) → List (List ℕ) → Result Framing Fault
stated_by minor [] [] = Ok NoBody
stated_by minor (v ∷ []) [] = one_length v
stated_by minor [] (v ∷ []) = one_coding minor v
stated_by minor (v ∷ w ∷ vs) cs = Err faults.BadLength
stated_by minor (v ∷ []) (c ∷ cs) = Err faults.BadLength
stated_by minor [] (c ∷ d ∷ cs) = Err faults.BadLength

-- each Content-Encoding is the plain one
abbrev pub is_plain : List (List ℕ) → Bool
is_plain codings = list_all (λ v. bytes_eq v (codes "identity")) codings

abbrev pub max_body : ℕ
max_body = 1048576

-- a stated length is within the limit
abbrev pub within_limit : Framing → Result Framing Fault
within_limit NoBody = Ok NoBody
within_limit (Sized n) = if nat_lt max_body n then Err faults.BodyTooLong else Ok (Sized n)
within_limit Chunked = Ok Chunked

-- the rules that come after the stated framing: the content's encoding, and then the limit
abbrev pub then_encoding : List (List ℕ) → Result Framing Fault → Result Framing Fault
then_encoding codings (Err fault) = Err fault
then_encoding codings (Ok framing) = if is_plain codings then within_limit framing else Err faults.BadEncoding

-- how the body of a head is framed, or the first fault of the head's fields
unfoldable pub framing_of : ℕ → List Header → Result Framing Fault
framing_of minor headers =
    if has_host minor (values_of (codes "host") headers)
    then then_encoding (values_of (codes "content-encoding") headers)
    (stated_by minor (values_of (codes "content-length") headers) (values_of (codes "transfer-encoding") headers))
    else Err faults.BadHead

-- the members of a list: what stands between its commas, without the white space around each (RFC 9110, section 5.6.1)
abbrev pub members : List ℕ → List (List ℕ)
members list = map trim_ows (slice_split (λ b. b == comma) list)

-- the list has that member, whatever the case of its ASCII letters
abbrev pub has_member : List ℕ → List ℕ → Bool
has_member list name = list_any (λ m. is_same_text m name) (members list)

-- some Connection field has that option (RFC 9110, section 7.6.1)
abbrev pub has_option : List ℕ → List Header → Bool
has_option option headers = list_any (λ v. has_member v option) (values_of (codes "connection") headers)

-- Whether the connection ends after the request (RFC 9112, section 9.3). The option `close` decides first, whatever other options there are
-- (section 9.6); without it a connection of HTTP/1.0 ends, also where the option `keep-alive` asks otherwise, and one of HTTP/1.1 goes on.
abbrev pub closes : ℕ → List Header → Bool
closes minor headers = has_option (codes "close") headers || (minor == 0)

-- another server sent the request on
abbrev pub is_replicated : List Header → Bool
is_replicated headers = list_any (λ v. bytes_eq v (codes "true")) (values_of (codes "x-netflix-discovery-replication") headers)

-- the values of its Origin fields, in order: of which site's page a browser sent it for (RFC 6454, section 7)
abbrev pub origins_of : List Header → List (List ℕ)
origins_of headers = values_of (codes "origin") headers

-- a stated length is within the limit
abbrev pub IsWithin : Framing → Type 0
IsWithin NoBody = ⊤
IsWithin (Sized n) = n ≤ max_body
IsWithin Chunked = ⊤
