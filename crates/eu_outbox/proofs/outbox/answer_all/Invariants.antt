use Rattle.std.proofs.Common.{◌≡◌, ◌+◌, ◌≤◌, length, drop, reverse, vec_len}
use Rattle.eu_model.specs.Server.{after_codes}
use Rattle.eu_outbox.proofs.outbox.answer_all.Given as goal

-- what is left leads to the whole
abbrev pub invariant-loop-code : goal.invariant-loop-code
invariant-loop-code l = record {
  answered : after_codes l.moment (reverse l.batch.items) (drop l.code-index l.codes) l.waiting.tasks ≡ after_codes l.moment (reverse l.fn.batch.items) l.fn.codes l.fn.waiting.tasks;
  count : vec_len l.batch + l.code-index ≡ length l.codes;
  room : length l.codes ≤ l.waiting.room + l.code-index;
  few : length l.waiting.tasks ≤ 10000;
}
