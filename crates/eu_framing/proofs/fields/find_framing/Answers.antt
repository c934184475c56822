use Rattle.std.proofs.Common.{map, sym, ◌∙◌}
use Rattle.std.proofs.lemmas.Result.{err_from_is_err_and}
use Rattle.httparse.specs.Spans.{header_bytes}
use Rattle.eu_framing.proofs.FieldLemmas.{framing_no_host, framing_bad, framing_coded, framing_good}
use Rattle.eu_framing.proofs.fields.find_framing.Goals as goal

pub returns-then-not-has_host-clause-value : goal.returns-then-not-has_host-clause-value
returns-then-not-has_host-clause-value c =
    framing_no_host c.args.minor (map (header_bytes c.args.text.now) c.args.headers.now) (sym (c.if-not-has_host.ensures _ c.find_said.ensures))

pub returns-in_err-framing-clause-value : goal.returns-in_err-framing-clause-value
returns-in_err-framing-clause-value c =
    let hs = map (header_bytes c.args.text.now) c.args.headers.now in
    let p = err_from_is_err_and c.from_residual.result c.from_residual.ensures.1 in
    rw (p.1, p.2) (framing_bad c.args.minor hs _ (sym (c.if-not-has_host.ensures _ c.find_said.ensures)) (c.in_err-framing.ensures _ _ c.find_said-lengths.ensures c.find_said-codings.ensures))

pub returns-then-not-all_have_value-clause-value : goal.returns-then-not-all_have_value-clause-value
returns-then-not-all_have_value-clause-value c =
    let hs = map (header_bytes c.args.text.now) c.args.headers.now in
    framing_coded c.args.minor hs _ (sym (c.if-not-has_host.ensures _ c.find_said.ensures)) (c.in_ok-framing.ensures _ _ c.find_said-lengths.ensures c.find_said-codings.ensures) (sym (c.if-not-all_have_value.ensures))

pub returns-clause-value : goal.returns-clause-value
returns-clause-value c =
    let hs = map (header_bytes c.args.text.now) c.args.headers.now in
    c.within_limit.ensures.value ∙ framing_good c.args.minor hs _ (sym (c.if-not-has_host.ensures _ c.find_said.ensures)) (c.in_ok-framing.ensures _ _ c.find_said-lengths.ensures c.find_said-codings.ensures) (sym (c.if-not-all_have_value.ensures))
