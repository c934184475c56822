use Rattle.std.proofs.Common.{◌≡◌, ◌++◌, drop, string_bytes}
use Rattle.std.specs.List.{flat_map}
use Rattle.eu_admin.specs.Apps.{instance_row}
use Rattle.eu_admin.proofs.apps.push_instances.Given as goal

abbrev pub invariant-loop-listed : goal.invariant-loop-listed
invariant-loop-listed l =
    string_bytes l.text ++ flat_map (instance_row l.now) (drop l.listed-index l.listing) ≡ string_bytes l.fn.text ++ flat_map (instance_row l.now) l.listing
