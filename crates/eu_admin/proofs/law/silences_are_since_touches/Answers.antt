use Rattle.eu_model.specs.Machine.{newest, duration}
use Rattle.eu_admin.proofs.LawLemmas.{heard_at, ends_at}
use Rattle.eu_admin.proofs.law.silences_are_since_touches.Goals as goal

pub returns : goal.returns
returns c = record {
  heard = λ r. heard_at (newest r.touches).kind r.registered (newest r.touches).at (duration r.instance);
  ends = λ r. ends_at (newest r.touches).kind (newest r.touches).at (duration r.instance);
}
