use Rattle.std.proofs.Common.{ap, sym, ◌∙◌, ◌+◌}
use Rattle.eu_model.proofs.MarkLemmas.{last_renewal, since_renewal}
use Rattle.eu_lease.specs.Meter.{Counted}
use Rattle.eu_lease.proofs.rate.Rate.count.Goals as goal

pub returns-clause-marks : goal.returns-clause-marks
returns-clause-marks c = λ marks counts. record {
  last = ap (λ (x : Counted). x.last) c.self.view_is ∙ counts.last ∙ sym (last_renewal marks);
  since = ap (λ (x : Counted). x.since + 1) c.self.view_is ∙ ap (λ n. n + 1) counts.since ∙ sym (since_renewal marks);
}
