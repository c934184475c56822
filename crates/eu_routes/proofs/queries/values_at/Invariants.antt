use Rattle.std.proofs.Common.{◌≡◌}
use Rattle.std.specs.Option.{option_map, option_or}
use Rattle.form_urlencoded.specs.Form.{raw_pairs}
use Rattle.eu_routes.specs.Query.{name_of, text_of, value_among, value_at}
use Rattle.eu_routes.proofs.queries.values_at.Given as goal

-- what was found, or else is found among the pairs that are left
abbrev pub invariant-loop-name : goal.invariant-loop-name
invariant-loop-name l = record {
  one : option_or (option_map (λ v. text_of v.now) l.first) (value_among (name_of l.one) (raw_pairs l.name-iterator.input.now)) ≡ value_at (name_of l.one) l.query;
  other : option_or (option_map (λ v. text_of v.now) l.second) (value_among (name_of l.other) (raw_pairs l.name-iterator.input.now)) ≡ value_at (name_of l.other) l.query;
}
