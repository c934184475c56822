use Rattle.std.proofs.Common.{◌≡◌, ◌<◌, length, arith}
use Rattle.eu_base.proofs.HostLemmas.{name_of_host, three_of_host}
use Rattle.eu_base.proofs.hosts.host_of.Goals as goal
use Rattle.eu_base.proofs.hosts.host_of.Goals.{in_default-via-then-entries-lt3, in_default-via-else-entries-lt3+else-entries-lt4}

pub returns-in_default-clause-none : goal.returns-in_default-clause-none
returns-in_default-clause-none c =
    λ none host is.
    let len : length c.args.entries.now ≡ 3 = three_of_host c.args.entries.now host is in
    elim c.in_default.branch [ in_default-via-then-entries-lt3 w ↦ grind (arith, len) | in_default-via-else-entries-lt3+else-entries-lt4 w ↦ grind (arith, len) ]

pub returns-clause-none : goal.returns-clause-none
returns-clause-none c =
    λ none host is.
    let long : 1 < length c.args.entries.now = omega (arith, c.in-len3.len_at_least) in
    c.text_of.ensures.none none host (name_of_host c.args.entries.now c.host-item.result host long c.host-item.is is)
