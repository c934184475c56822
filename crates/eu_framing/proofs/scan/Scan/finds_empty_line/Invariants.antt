use Rattle.std.proofs.Common.{◌≡◌, ◌≤◌, ◌-◌, Bool, drop, length, max}
use Rattle.eu_framing.specs.Scanning.{IsAt, has_end}
use Rattle.eu_framing.proofs.scan.Scan.finds_empty_line.Given as goal

abbrev pub invariant-bytes : goal.invariant-bytes
invariant-bytes l = record {
  forward : l.initial.self.seen ≤ l.self.seen;
  at : (begun : Bool) → IsAt begun l.text l.initial.self → IsAt begun l.text l.self;
  ends : has_end l.initial.self.in_line l.initial.self.begun (drop l.initial.self.seen l.text) ≡ has_end l.self.in_line l.self.begun (drop l.self.seen l.text);
  within : l.self.seen ≤ max l.initial.self.seen (length l.text);
}

abbrev pub decreases-bytes : goal.decreases-bytes
decreases-bytes l = length l.text - l.self.seen
