use Rattle.std.proofs.Common.{◌<◌, arith}
use Rattle.std.proofs.lemmas.List.Elements.{All-from_get_or}
use Rattle.std.proofs.lemmas.Str.{IsUtf8-from_ascii}
use Rattle.std.proofs.lemmas.Str.Ascii.{IsAscii-from_all}
use Rattle.form_urlencoded.specs.Form.{IsPlain}
use Rattle.eu_routes.proofs.queries.is_plain.Goals as goal

pub returns : goal.returns
returns c =
    let all = c.loop-byte.invariant in
    λ _. (
      All-from_get_or IsPlain c.args.bytes.now 0 (λ k l. (all.plus k (omega (arith, l)), all.percent k (omega (arith, l)))),
      IsUtf8-from_ascii c.args.bytes.now (IsAscii-from_all c.args.bytes.now (All-from_get_or (λ b. b < 128) c.args.bytes.now 0 (λ k l. all.ascii k (omega (arith, l))))),
    )
