use Rattle.std.proofs.Common.{◌≡◌, ap, sym, ◌∙◌}
use Rattle.std.specs.Prelude.{◌-◌, Bool, Some}
use Rattle.eu_core.specs.Answered.{equals_of, for_log, replies_for}
use Rattle.eu_core.proofs.replies.told_and_logged.Goals as goal
use Rattle.eu_core.proofs.replies.told_and_logged.Goals.{then-logs, else-logs}

pub one_more-requires : goal.one_more-requires
one_more-requires c =
    (0, (c.one_more-answer.ensures 1 (c.requires ∙ ap (λ (b : Bool). equals_of (replies_for b - 1) c.args.reply.now) c.if-logs.true)).1)

pub returns : goal.returns
returns c =
    let r = c.args.reply.now in
    elim c.if-logs.branch [
      | then-logs w ↦
          let first = c.one_more-answer.ensures 1 (c.requires ∙ ap (λ (b : Bool). equals_of (replies_for b - 1) r) w.if-logs.true) in
          let logged = w.logged-is ∙ ap Some (w.one_more.ensures 0 first.1).0 ∙ ap (λ (b : Bool). for_log b r) (sym w.if-logs.true) in
          λ i. (first.0 i, logged i)
      | else-logs w ↦
          let first = c.one_more-answer.ensures 0 (c.requires ∙ ap (λ (b : Bool). equals_of (replies_for b - 1) r) w.if-logs.false) in
          let logged = w.logged-is ∙ ap (λ (b : Bool). for_log b r) (sym w.if-logs.false) in
          λ i. (first.0 i, logged i)
    ]
