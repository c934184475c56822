use Rattle.std.proofs.Common.{◌≡◌, ◌+◌, ◌-◌, ◌≤◌, ◌++◌, length, vec_len, take, drop, ap, sym, ◌∙◌, arith}
use Rattle.eu_model.specs.Server.{live}
use Rattle.eu_outbox.proofs.TaskLemmas.{batch-step, live-next, length-live_one}
use Rattle.eu_outbox.proofs.waiting.Line.batch.Goals as goal

pub loop-place-preserved : goal.loop-place-preserved
loop-place-preserved c =
    let tasks = c.args.self.now.tasks in
    let batch = c.loop-place.batch.items in
    let here = live c.args.moment (take 1 (drop c.loop-place.place tasks)) in
    let rest = live c.args.moment (drop (c.loop-place.place + 1) tasks) in
    let more : c.push_copy.new.batch.items ≡ batch ++ here = c.in_ok-push_copy.ensures ∙ ap (λ l. batch ++ l) c.live_at.ensures in
    let long : vec_len c.push_copy.new.batch ≡ length (batch ++ here) = c.push_copy.new.batch.ok.0 ∙ ap length more in
    let fits : length batch + length here ≤ 250 = omega (arith, c.loop-place.batch.ok.0, length-live_one c.args.moment c.loop-place.place tasks, c.len.ensures) in
    (λ i. more i ++ take (250 - long i) rest)
    ∙ sym (batch-step 250 batch here rest fits)
    ∙ (λ i. batch ++ take (250 - sym c.loop-place.batch.ok.0 i) (sym (live-next c.args.moment c.loop-place.place tasks) i))
    ∙ c.loop-place.invariant
