use Rattle.std.proofs.Common.{sym, ◌∙◌}
use Rattle.eu_workers.proofs.PutLemmas.{put_is_short}
use Rattle.eu_workers.proofs.long.is_long.Goals as goal

pub returns-then-starts_with : goal.returns-then-starts_with
returns-then-starts_with c = sym (put_is_short c.args.bytes.now (sym c.starts_with.ensures.value ∙ c.if-starts_with.true))
