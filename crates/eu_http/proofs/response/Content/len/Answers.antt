use Rattle.std.proofs.Common.{◌≡◌, length, vec_len, sym, ap, ◌∙◌, ◌-◌, arith}
use Rattle.std.proofs.lemmas.List.{length-drop}
use Rattle.eu_http.specs.Response.{content_of, text_of}
use Rattle.eu_http.proofs.response.Content.len.Goals as goal

pub returns-in-Json : goal.returns-in-Json
returns-in-Json c =
    let bytes = c.in-Json.bytes in
    let same : vec_len bytes ≡ length bytes.items = omega (arith, bytes.ok) in
    c.saturating_sub.ensures ∙ ap (λ n. n - 128) (c.len.ensures ∙ same) ∙ sym (length-drop 128 bytes.items) ∙ sym (ap (λ k. length (text_of (content_of k))) c.in-Json.is)
