-- The responses to an operator
use Rattle.std.specs.Prelude.{ℕ, Bool, List, [], ◌++◌, codes, length, if◌then◌else◌}
use Rattle.std.specs.Fmt.{decimal}
use Rattle.eu_admin.specs.declared.responses.Media.{Media}
use Rattle.eu_admin.specs.declared.responses.Media.TheVariants.{Page, Metrics, Plain}
use Rattle.eu_admin.specs.declared.responses.Refusal.{Refusal}
use Rattle.eu_admin.specs.declared.responses.Refusal.TheVariants.{BadRequest, NotFound, OtherMethod, OutOfMemory}

abbrev pub content_type : Media → List ℕ
content_type Page = codes "text/html; charset=utf-8"
content_type Metrics = codes "text/plain; version=0.0.4; charset=utf-8"
content_type Plain = codes "text/plain; charset=utf-8"

abbrev pub refusal_text : Refusal → List ℕ
refusal_text BadRequest = codes "HTTP/1.1 400 Bad Request\r\nContent-Length: 0\r\nConnection: close\r\n\r\n"
refusal_text NotFound = codes "HTTP/1.1 404 Not Found\r\nContent-Length: 0\r\nConnection: close\r\n\r\n"
refusal_text OtherMethod = codes "HTTP/1.1 405 Method Not Allowed\r\nAllow: GET, HEAD\r\nContent-Length: 0\r\nConnection: close\r\n\r\n"
refusal_text OutOfMemory = codes "HTTP/1.1 503 Service Unavailable\r\nContent-Length: 0\r\nConnection: close\r\n\r\n"

abbrev pub health_text : Bool → List ℕ
health_text is_warming = if is_warming then codes "warming up\n" else codes "ok\n"

-- to a `HEAD` no text is sent
abbrev pub content_of : List ℕ → Bool → List ℕ
content_of text is_head = if is_head then [] else text

-- the status line, what the text is, and how long
unfoldable pub fields : List ℕ → ℕ → List ℕ
fields content_type length =
    codes "HTTP/1.1 200 OK\r\nContent-Type: " ++ (content_type ++ (codes "\r\nContent-Length: " ++ (decimal length ++ codes "\r\n")))

-- nobody is to keep it; a page loads nothing but its own style, and stands in no other; the connection ends
unfoldable pub rest_of_head : List ℕ
rest_of_head = codes "Cache-Control: no-store\r\nContent-Security-Policy: default-src 'none'; style-src 'unsafe-inline'; base-uri 'none'; form-action 'none'; frame-ancestors 'none'\r\nX-Content-Type-Options: nosniff\r\nConnection: close\r\n\r\n"

-- a head that tells the text's length, and the text, but for a `HEAD`
unfoldable pub response_text : Media → List ℕ → Bool → List ℕ
response_text media text is_head = fields (content_type media) (length text) ++ (rest_of_head ++ content_of text is_head)
