use Rattle.std.proofs.Common.{sym, ◌∙◌}
use Rattle.std.specs.Prelude.{None}
use Rattle.eu_model.specs.Plain.{Plain}
use Rattle.eu_model.proofs.OpeningLemmas.{plain-opening}
use Rattle.eu_core.proofs.registry.Registry.open.Goals as goal

pub returns : goal.returns
returns c =
    let t = c.open.ensures in
    let r = c.new-3.ensures.counts in
    (λ i. let p : Plain = record { config = (t i).config; leases = c.new.ensures i; overrides = c.new-2.ensures i; expected = (t i).expected; last = (r i).last; since = (r i).since; previous = None } in p)
    ∙ sym (plain-opening c.args.config c.args.expected)
