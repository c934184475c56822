use Rattle.std.proofs.Common.{◌≡◌, ◌++◌, codes, map, ap, ◌∙◌}
use Rattle.json.specs.Print.{quoted}
use Rattle.serde_json.specs.Data.{string}
use Rattle.serde_json.specs.Written.{compact_text}
use Rattle.eu_model.specs.View.{hash_code, hash_of}
use Rattle.eu_json.specs.Tree.{item_tree, list_tree, runs}
use Rattle.eu_json.proofs.LeadLemmas.{five, applications_text}
use Rattle.eu_json.proofs.listings.append_applications.Goals as goal

pub returns : goal.returns
returns c =
    let o = c.args.out.now.items in
    let d = list_tree (map item_tree (runs c.args.held.now)) in
    let e = string (hash_code c.args.held.now) in
    let first = codes "{\"applications\":{\"application\":" in
    let second = codes ",\"apps__hashcode\":" in
    let third = codes ",\"versions__delta\":\"1\"}}" in
    let code : c.as_str.result.now ≡ hash_code c.args.held.now = c.as_str.ensures.value ∙ c.in_ok-code.ensures ∙ ap hash_of c.of.ensures in
    let start = c.in_ok-extend_from_slice.ensures.items in
    let items = c.in_ok-append_items.ensures ∙ ap (λ s. s ++ compact_text d) start in
    let lead = c.in_ok-extend_from_slice-2.ensures.items ∙ ap (λ s. s ++ second) items in
    let quote = c.in_ok-append_quoted.ensures ∙ ap (λ s. s ++ quoted c.as_str.result.now) lead ∙ ap (λ s. (((o ++ first) ++ compact_text d) ++ second) ++ quoted s) code in
    c.in_ok-extend_from_slice-3.ensures.items ∙ ap (λ s. s ++ third) quote
    ∙ five o first (compact_text d) second (compact_text e) third ∙ ap (λ s. o ++ s) (applications_text d e)
