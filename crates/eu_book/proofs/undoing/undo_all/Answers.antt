use Rattle.std.proofs.Common.{arith, ap, sym, ◌∙◌}
use Rattle.eu_model.specs.declared.commands.Entry.{Entry}
use Rattle.eu_core.specs.Undone.{undone}
use Rattle.eu_book.proofs.UndoneLemmas.{undone_more}
use Rattle.eu_book.proofs.undoing.undo_all.Goals as goal

pub loop-left-preserved : goal.loop-left-preserved
loop-left-preserved c = record {
  within = omega (arith, c.loop-left.invariant.within);
  same = undone_more c.loop-left.registry c.undo.new.self _ c.args.entries.now c.args.undos.now c.loop-left.left c.index-entries-left.result c.index-undos-left.result c.loop-left-test.true c.loop-left.invariant.within c.requires
      c.index-entries-left.is c.index-undos-left.is (c.in_ok-undo.ensures ∙ ap (λ (e : Entry). undone e.command c.index-undos-left.result c.loop-left.registry) (sym c.index-entries-left.is)) c.loop-left.invariant.same;
}
