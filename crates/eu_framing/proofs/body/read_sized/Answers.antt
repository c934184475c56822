use Rattle.std.proofs.Common.{◌≡◌, ◌+◌, ◌-◌, ℕ, List, Ok, ap, refl, arith, drop}
use Rattle.std.proofs.lemmas.List.{length-drop}
use Rattle.eu_framing.specs.Message.{BreaksSized}
use Rattle.eu_framing.proofs.BodyLemmas.{sized_read}
use Rattle.eu_framing.proofs.ReadingLemmas.{blames_end, grows_length}
use Rattle.eu_framing.proofs.body.read_sized.Goals as goal

pub returns-then-not-branch-clause-fault : goal.returns-then-not-branch-clause-fault
returns-then-not-branch-clause-fault g c =
    let no = ap Ok c.if-not-branch.true in
    let short = c.in_ok-fill_to.ensures.cut no in
    blames_end _ _ (λ (bytes : List ℕ) f. BreaksSized c.args.len (drop c.args.start bytes) f) c.in_ok-fill_to.ensures.grows (c.in_ok-fill_to.ensures.end no)
    (refl, omega (arith, short, c.fill_to.new.buffer.ok, c.args.buffer.now.ok, c.requires.within, grows_length c.in_ok-fill_to.ensures.grows, length-drop c.args.start c.fill_to.new.buffer.items))

pub returns-clause-body : goal.returns-clause-body
returns-clause-body g c = λ more.
    let whole = c.in_ok-fill_to.ensures.whole (ap Ok c.if-not-branch.false) in
    let cut : (c.args.start + c.args.len) - c.args.start ≡ c.args.len = omega arith in
    sized_read c.args.start c.args.len c.fill_to.new.buffer.items _ more (omega (arith, whole, c.fill_to.new.buffer.ok)) (rw (cut, c.deref.ensures.value) at c.in_ok-from_slice.ensures.items)
