use Rattle.std.proofs.Common.{◌≡◌, ◌+◌, ◌++◌, false, length, string_bytes}
use Rattle.serde_json.specs.View.{members_view}
use Rattle.serde_json.specs.Written.{members_have_float}
use Rattle.eu_text.specs.Text.{led, before, named, behind}
use Rattle.eu_text.proofs.cut.append_before.Given as goal

abbrev pub invariant-loop-entry : goal.invariant-loop-entry
invariant-loop-entry l = record {
  whole : members_have_float (members_view l.left) ≡ false;
  text : string_bytes l.out ++ led (members_view l.left) ≡ string_bytes l.fn.out ++ led (members_view l.entries);
  len : length (string_bytes l.out) + length (led (before l.name (members_view l.left))) ≡ length (string_bytes l.fn.out) + length (led (before l.name (members_view l.entries)));
  named : named l.name (members_view l.left) ≡ named l.name (members_view l.entries);
  behind : behind l.name (members_view l.left) ≡ behind l.name (members_view l.entries);
}

abbrev pub decreases-loop-entry : goal.decreases-loop-entry
decreases-loop-entry l = length l.left
