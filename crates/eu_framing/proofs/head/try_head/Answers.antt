use Rattle.std.proofs.Common.{◌∙◌, sym}
use Rattle.eu_framing.specs.Message.{max_head}
use Rattle.eu_framing.proofs.ScanLemmas.{head_none, head_in_window}
use Rattle.eu_framing.proofs.head.try_head.Goals as goal

pub returns-else-finds_empty_line-clause-none : goal.returns-else-finds_empty_line-clause-none
returns-else-finds_empty_line-clause-none c = λ at after.
    head_in_window max_head c.args.buffer.now (head_none c.args.buffer.now c.args.scan.now at after (sym c.finds_empty_line.ensures.ends ∙ c.if-finds_empty_line.false))

pub returns-else-finds_empty_line-2-clause-none : goal.returns-else-finds_empty_line-2-clause-none
returns-else-finds_empty_line-2-clause-none c = λ at after.
    head_in_window max_head c.args.buffer.now (head_none c.args.buffer.now c.args.scan.now at after (sym c.finds_empty_line-else-is_new.ensures.ends ∙ c.if-finds_empty_line-2.false))
