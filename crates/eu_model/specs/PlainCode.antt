-- Plain forms, as they are stored
use Rattle.std.specs.Prelude.{ℕ, List, Option, refl}
use Rattle.std.specs.Coded.{Coded, code_by, coded×, coded_list, coded_ℕ, coded_option}
use Rattle.std.specs.FinMap as map
use Rattle.std.specs.FinMap.{FinMap}
use Rattle.eu_base.specs.declared.settings.Config.{Config}
use Rattle.eu_base.specs.declared.statuses.Status.{Status}
use Rattle.eu_base.specs.contracts.settings.Config as config
use Rattle.eu_base.specs.contracts.statuses.Status as status
use Rattle.eu_base.specs.Values.{name_cmp, key_cmp, coded_key}
use Rattle.eu_model.specs.declared.queues.Queue.{Queue}
use Rattle.eu_model.specs.declared.views.Listed.{Listed}
use Rattle.eu_model.specs.contracts.views.Listed as listed
use Rattle.eu_model.specs.contracts.queues.Queue as queue
use Rattle.eu_model.specs.Plain.{Plain}
use Rattle.eu_model.specs.Server.{PlainServer}

abbrev pub coded_leases : Coded (FinMap key_cmp Listed)
coded_leases = map.code coded_key listed.the_row.coded

abbrev pub coded_overrides : Coded (FinMap name_cmp Status)
coded_overrides = map.code (coded_list coded_ℕ) status.the_row.coded

abbrev pub coded_plain : Coded Plain
coded_plain =
    code_by (Config × (FinMap key_cmp Listed × (FinMap name_cmp Status × (ℕ × (ℕ × (ℕ × Option ℕ))))))
    (coded× config.the_row.coded (coded× coded_leases (coded× coded_overrides (coded× coded_ℕ (coded× coded_ℕ (coded× coded_ℕ (coded_option coded_ℕ)))))))
    (λ p. (p.config, (p.leases, (p.overrides, (p.expected, (p.last, (p.since, p.previous)))))))
    (λ q. record { config = q.0; leases = q.1.0; overrides = q.1.1.0; expected = q.1.1.1.0; last = q.1.1.1.1.0; since = q.1.1.1.1.1.0; previous = q.1.1.1.1.1.1 })
    (λ _. refl)

abbrev pub coded_server : Coded PlainServer
coded_server =
    code_by (Plain × List Queue) (coded× coded_plain (coded_list queue.the_row.coded)) (λ p. (p.registry, p.queues)) (λ q. record { registry = q.0; queues = q.1 }) (λ _. refl)
