use Rattle.std.proofs.Common.{◌≡◌, ◌++◌, drop, string_bytes}
use Rattle.std.specs.List.{flat_map}
use Rattle.eu_admin.specs.Front.{app_row}
use Rattle.eu_admin.proofs.front.push_lines.Given as goal

abbrev pub invariant-loop-line : goal.invariant-loop-line
invariant-loop-line l =
    string_bytes l.text ++ flat_map app_row (drop l.line-index l.lines) ≡ string_bytes l.fn.text ++ flat_map app_row l.lines
