use Rattle.std.proofs.Common.{◌≡◌, drop, map}
use Rattle.eu_routes.specs.Table.{rows_onto, rows_for}
use Rattle.eu_routes.proofs.table.router_of.Given as goal

abbrev pub invariant-loop-path : goal.invariant-loop-path
invariant-loop-path l = rows_onto l.router (map (λ p. (p.0.now, p.1)) (drop l.path-index l.paths)) ≡ rows_for (map (λ p. (p.0.now, p.1)) l.paths)
