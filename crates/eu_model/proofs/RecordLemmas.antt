-- What touches mean for the last update
use Rattle.std.proofs.Common.{◌≡◌, ℕ, ◌+◌, List, [], ◌∷◌, ◌++◌, refl, sym, ap, ◌∙◌}
use Rattle.eu_base.specs.declared.instances.Instance.{Instance}
use Rattle.eu_model.specs.declared.views.Listed.{Listed}
use Rattle.eu_model.specs.Machine.{Touch, Record, newest_from, newest, duration, renewed}
use Rattle.eu_model.specs.Machine.Kind.{Fresh, Renewed}
use Rattle.eu_model.specs.Plain.{listed, update_of}
use Rattle.eu_model.specs.PlainSteps.{raised}

newest_from_snoc : (u : Touch) (ts : List Touch) (t : Touch) → newest_from u (ts ++ (t ∷ [])) ≡ t
newest_from_snoc u [] t = refl
newest_from_snoc u (v ∷ ts) t = newest_from_snoc v ts t

pub newest_snoc : (ts : List Touch) (t : Touch) → newest (ts ++ (t ∷ [])) ≡ t
newest_snoc ts t = newest_from_snoc (record { at = 0; kind = Fresh }) ts t

-- a renewed lease, whatever its instance and its up moment become
pub listed_renewed : (r : Record) (t : ℕ) (i : Instance) (up : ℕ) →
    listed (record (renewed r t) { instance = i; up = up })
    ≡ record { instance = i; times = record { registered = r.registered; updated = t + duration i; up = up } }
listed_renewed r t i up =
    ap (λ (x : Touch). let l : Listed = record { instance = i; times = record { registered = r.registered; updated = update_of x (duration i); up = up } } in l)
    (newest_snoc r.touches (record { at = t; kind = Renewed }))

-- so it is kept alike of each record that is listed so
pub renewed_alike : (r : Record) (t : ℕ) (i : Instance) (up : ℕ) →
    listed (record (renewed r t) { instance = i; up = up }) ≡ listed (record (renewed (raised (listed r)) t) { instance = i; up = up })
renewed_alike r t i up = listed_renewed r t i up ∙ sym (listed_renewed (raised (listed r)) t i up)
