use Rattle.std.proofs.Common.{◌≡◌, ◌++◌, false, drop, string_bytes}
use Rattle.serde_json.specs.View.{members_view}
use Rattle.serde_json.specs.Written.{members_have_float}
use Rattle.eu_text.specs.Text.{led}
use Rattle.eu_text.proofs.cut.push_members.Given as goal

abbrev pub invariant-loop-entry : goal.invariant-loop-entry
invariant-loop-entry l = record {
  whole : members_have_float (members_view (drop l.entry-index l.left)) ≡ false;
  text : string_bytes l.out ++ led (members_view (drop l.entry-index l.left)) ≡ string_bytes l.fn.out ++ led (members_view l.entries);
}
