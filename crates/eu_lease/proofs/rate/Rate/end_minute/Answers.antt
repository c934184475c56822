use Rattle.std.proofs.Common.{ap, sym, ◌∙◌}
use Rattle.eu_model.proofs.MarkLemmas.{last_minute, since_minute}
use Rattle.eu_lease.specs.Meter.{Counted}
use Rattle.eu_lease.proofs.rate.Rate.end_minute.Goals as goal

pub returns-clause-marks : goal.returns-clause-marks
returns-clause-marks c = λ marks counts. record {
  last = ap (λ (x : Counted). x.since) c.self.view_is ∙ counts.since ∙ sym (last_minute marks);
  since = sym (since_minute marks);
}
