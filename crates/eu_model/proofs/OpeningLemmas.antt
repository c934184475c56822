-- The opening and the counts, in plain form
use Rattle.std.proofs.Common.{◌≡◌, ℕ, sym, ap, ◌∙◌}
use Rattle.std.specs.Prelude.{None}
use Rattle.std.specs.FinMap.{empty, len}
use Rattle.eu_base.specs.declared.settings.Config.{Config}
use Rattle.eu_base.specs.Values.{key_cmp}
use Rattle.eu_base.proofs.KeyLemmas.{keys_total, keys_exact}
use Rattle.eu_model.specs.declared.views.Counts.{Counts}
use Rattle.eu_model.specs.Machine.{threshold, is_permitted, Machine, opening}
use Rattle.eu_model.specs.View.{counts}
use Rattle.eu_model.specs.Plain.{Plain, plain, listed}
use Rattle.eu_model.specs.Answers.{Shows}
use Rattle.eu_model.proofs.MarkLemmas.{none_since, none_last}
use Rattle.eu_model.proofs.MapLemmas.{len-map_values, map_values-empty}

abbrev pub plain_start : Config → ℕ → Plain
plain_start config expected = record { config = config; leases = empty; overrides = empty; expected = expected; last = 0; since = 0; previous = None }

pub plain-opening : (config : Config) (expected : ℕ) → plain (opening config expected) ≡ plain_start config expected
plain-opening config expected =
    let leases = map_values-empty keys_total keys_exact listed in
    λ i. record (plain_start config expected) { leases = leases i; last = none_last i; since = none_since i }

abbrev pub plain_counts : Plain → Counts
plain_counts p = record {
  held = len p.leases;
  expected = p.expected;
  threshold = threshold p.config p.expected;
  last = p.last;
  permitted = is_permitted p.config p.expected p.last;
  preservation = p.config.preservation;
}

pub counts-kept : (s : Machine) → counts s ≡ plain_counts (plain s)
counts-kept s = let held = sym (len-map_values key_cmp listed s.leases) in λ i. record (counts s) { held = held i }

pub counts_shown : (p : Plain) → Shows p counts (plain_counts p)
counts_shown p s e = ap plain_counts (sym e) ∙ sym (counts-kept s)
