use Rattle.std.proofs.Common.{◌≡◌, ◌-◌, length, take, drop, arith, length-drop, ℕ, ◌∙◌}
use Rattle.std.proofs.KnownBytes.{Appends-trans}
use Rattle.std.proofs.Math.Seq.{take-add}
use Rattle.std.proofs.lemmas.List.{take_all}
use Rattle.eu_stream.proofs.sink.Sink.write_owned.Goals as goal

pub writes-preserved : goal.writes-preserved
writes-preserved g c =
    let bytes = take (length c.deref.result.now - c.args.start) (drop c.args.start c.deref.result.now) in
    let written = c.writes.written in
    let count = c.in_ok-written.field-0 in
    let rest : take (length bytes - written) (drop written bytes) ≡ drop written bytes = take_all _ _ (omega (arith, length-drop written bytes)) in
    let bound = rw (rest, length-drop {A = ℕ}) at c.in_ok-written.ensures.bound in
    let wrote = rw rest at c.in_ok-written.ensures.bytes in
    record {
      within = omega (arith, bound);
      wrote = rw take-add (Appends-trans _ _ _ (take written bytes) (take count (drop written bytes)) c.writes.invariant.wrote wrote);
      sound = c.in_ok-written.ensures.sound ∙ c.writes.invariant.sound;
      same_stream = c.in_ok-written.ensures.same_stream ∙ c.writes.invariant.same_stream;
    }
