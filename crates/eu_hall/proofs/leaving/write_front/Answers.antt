use Rattle.std.proofs.Common.{◌≡◌, ◌-◌, length, take, drop, arith, length-drop, ◌∙◌}
use Rattle.std.proofs.KnownBytes.{Appends-trans}
use Rattle.std.proofs.Math.Seq.{take-add}
use Rattle.std.proofs.lemmas.List.{take_all}
use Rattle.eu_hall.proofs.leaving.write_front.Goals as goal

pub sends-preserved : goal.sends-preserved
sends-preserved g c =
    let bytes = c.args.bytes.now in
    let sent = c.sends.sent in
    let count = c.in-Took.count in
    let rest : take (length bytes - sent) (drop sent bytes) ≡ drop sent bytes = take_all _ _ (omega (arith, length-drop sent bytes)) in
    let took = rw rest at c.in-Took.ensures.writes in
    record {
      within = omega (arith, took.1, length-drop sent bytes);
      wrote = rw take-add (Appends-trans _ _ _ (take sent bytes) (take count (drop sent bytes)) c.sends.invariant.wrote took.2);
      no_wait = c.in-Took.ensures.waits ∙ c.sends.invariant.no_wait;
      sound = c.in-Took.ensures.has_failed ∙ c.sends.invariant.sound;
      same_stream = c.in-Took.ensures.same_stream ∙ c.sends.invariant.same_stream;
    }
