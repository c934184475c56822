use Rattle.std.proofs.Common.{◌≡◌, drop}
use Rattle.std.specs.List.{list_all}
use Rattle.eu_audit.specs.PlainForm.{is_plain_lease}
use Rattle.eu_audit.proofs.plain.are_plain_leases.Given as goal

abbrev pub invariant-loop-lease : goal.invariant-loop-lease
invariant-loop-lease l = record { all : list_all is_plain_lease (drop l.lease-index l.leases) ≡ list_all is_plain_lease l.fn.leases }
