use Rattle.std.proofs.Common.{◌++◌, [], codes, length}
use Rattle.http.specs.StatusCode.{status_text}
use Rattle.eu_http.specs.Response.{response_of, line, type_line, length_line, close_line, text_of}
use Rattle.eu_http.proofs.TextLemmas.{in_order}
use Rattle.eu_http.proofs.text.head.Goals as goal

pub returns : goal.returns
returns c =
    let r = response_of c.args.response.now in
    rw (c.in_ok-push_str.ensures.bytes, c.in_ok-push_close.ensures, c.in_ok-push_length.ensures, c.in_ok-push_type.ensures, c.in_ok-push_status.ensures, c.in_ok-text.ensures.bytes, c.len.ensures)
    (in_order (line (codes "HTTP/1.1 " ++ status_text r.status)) (type_line r.content) (length_line r.status (length (text_of r.content))) (close_line c.args.close) (line []))
