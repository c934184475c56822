-- Metrics in the text format of Prometheus
use Rattle.std.specs.Prelude.{ℕ, List, Bool, ◌++◌, codes, if◌then◌else◌}
use Rattle.std.specs.Fmt.{decimal}
use Rattle.std.specs.List.{flat_map}
use Rattle.eu_base.specs.declared.statuses.Status.{Status}
use Rattle.eu_base.specs.declared.statuses.Status.TheVariants.{Up, Down, Starting, OutOfService, Unknown}
use Rattle.eu_base.specs.Values.{status_name}
use Rattle.eu_gate.specs.declared.tally.Count.{Count}
use Rattle.eu_gate.specs.declared.tally.Tally.{Tally}
use Rattle.eu_model.specs.declared.status_counts.StatusCounts.{StatusCounts}
use Rattle.eu_model.specs.declared.views.Counts.{Counts}
use Rattle.eu_model.specs.declared.views.Gauges.{Gauges}
use Rattle.eu_admin.specs.declared.facts.Connections.{Connections}
use Rattle.eu_admin.specs.declared.facts.Done.{Done}
use Rattle.eu_admin.specs.declared.facts.Facts.{Facts}

-- ---- families of samples

-- the two lines with which a family begins
unfoldable pub family : List ℕ → List ℕ → List ℕ → List ℕ
family name kind help = codes "# HELP " ++ (name ++ (codes " " ++ (help ++ (codes "\n# TYPE " ++ (name ++ (codes " " ++ (kind ++ codes "\n")))))))

-- a sample without labels
abbrev pub sample : List ℕ → ℕ → List ℕ
sample name n = name ++ (codes " " ++ (decimal n ++ codes "\n"))

-- a family of one number, which goes up and down
unfoldable pub gauge : List ℕ → List ℕ → ℕ → List ℕ
gauge name help n = family name (codes "gauge") help ++ sample name n

-- or only up
unfoldable pub counter : List ℕ → List ℕ → ℕ → List ℕ
counter name help n = family name (codes "counter") help ++ sample name n

-- or tells whether something holds
unfoldable pub flag : List ℕ → List ℕ → Bool → List ℕ
flag name help holds = gauge name help (if holds then 1 else 0)

-- ---- what is told

-- the leases that are held in a status
unfoldable pub in_status : Status → ℕ → List ℕ
in_status status n = codes "eureka_leases{status=\"" ++ (status_name status ++ (codes "\"} " ++ (decimal n ++ codes "\n")))

unfoldable pub leases : StatusCounts → List ℕ
leases s =
    family (codes "eureka_leases") (codes "gauge") (codes "Leases that are held.")
    ++ (in_status Up s.up
    ++ (in_status Down s.down
    ++ (in_status Starting s.starting
    ++ (in_status OutOfService s.out_of_service
    ++ in_status Unknown s.unknown))))

unfoldable pub renewals : Gauges → List ℕ
renewals g =
    gauge (codes "eureka_leases_due") (codes "Leases that have expired and are still held.") g.due
    ++ (gauge (codes "eureka_clients_expected") (codes "Clients that are expected to renew.") g.counts.expected
    ++ (gauge (codes "eureka_renewals_threshold") (codes "Renewals a minute above which evictions are permitted.") g.counts.threshold
    ++ gauge (codes "eureka_renewals_last_minute") (codes "Renewals of the last whole minute.") g.counts.last))

unfoldable pub preservation : Counts → List ℕ
preservation c =
    flag (codes "eureka_evictions_permitted") (codes "Whether leases that expire are evicted.") c.permitted
    ++ flag (codes "eureka_self_preservation_enabled") (codes "Whether self-preservation is on.") c.preservation

unfoldable pub done : Done → List ℕ
done d =
    counter (codes "eureka_steps_total") (codes "Commands that were carried out.") d.steps
    ++ (counter (codes "eureka_renewals_total") (codes "Renewals that were counted.") d.renewed
    ++ (counter (codes "eureka_leases_added_total") (codes "Leases that were added.") d.added
    ++ (counter (codes "eureka_leases_removed_total") (codes "Leases that were removed.") d.removed
    ++ counter (codes "eureka_leases_evicted_total") (codes "Leases that were evicted.") d.evicted)))

unfoldable pub connections : Connections → List ℕ
connections c =
    gauge (codes "eureka_connections_open") (codes "Connections that are open.") c.open
    ++ (counter (codes "eureka_connections_accepted_total") (codes "Connections that were accepted.") c.accepted
    ++ counter (codes "eureka_connections_refused_total") (codes "Connections that were turned away.") c.refused)

-- the responses of a status
unfoldable pub of_status : Count → List ℕ
of_status c = codes "eureka_responses_total{status=\"" ++ (decimal c.number ++ (codes "\"} " ++ (decimal c.times ++ codes "\n")))

-- the requests that were refused by a fault
unfoldable pub of_fault : Count → List ℕ
of_fault c = codes "eureka_requests_refused_total{fault=\"" ++ (decimal c.number ++ (codes "\"} " ++ (decimal c.times ++ codes "\n")))

unfoldable pub responses : Tally → List ℕ
responses t =
    family (codes "eureka_responses_total") (codes "counter") (codes "Responses to clients, by status.")
    ++ (flat_map of_status t.statuses
    ++ (family (codes "eureka_requests_refused_total") (codes "counter") (codes "Requests of clients that were refused, by fault.")
    ++ flat_map of_fault t.faults))

-- what is told of clients
unfoldable pub clients : Connections → Tally → List ℕ
clients c t = connections c ++ responses t

unfoldable pub server : ℕ → List ℕ → List ℕ
server uptime version =
    gauge (codes "eureka_uptime_seconds") (codes "For how long the server has run.") uptime
    ++ (family (codes "eureka_build_info") (codes "gauge") (codes "The version of the server.")
    ++ (codes "eureka_build_info{version=\"" ++ (version ++ codes "\"} 1\n")))

-- all of it
abbrev pub metrics : Facts → List ℕ → List ℕ
metrics f version =
    leases f.statuses
    ++ (renewals f.gauges
    ++ (preservation f.gauges.counts
    ++ (done f.done
    ++ (clients f.connections f.responses
    ++ server f.uptime_secs version))))
