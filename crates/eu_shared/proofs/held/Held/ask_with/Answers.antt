use Rattle.std.proofs.Common.{rules, ◌∙◌, ap}
use Rattle.std.specs.Prelude.{◌++◌, ◌∷◌, []}
use Rattle.eu_shared.proofs.TrimLemmas.{pushed}
use Rattle.eu_shared.proofs.held.Held.ask_with.Goals as goal

pub invariant_of-pass-2 : goal.invariant_of-pass-2
invariant_of-pass-2 g c = (
  search rules,
  λ fresh.
      let with = c.is_stale_with-pass-inside.ensures.fresh fresh in
      let stale = c.see.ensures.stale with.0 in
      pushed c.pass.inside.journal_first c.see.new.journal_first c.pass.inside.log.items c.push_reserved.new.self.items c.in_ok-outcome.outcome.logged stale.1 (c.pass.invariant.1 stale.0) with.1
      (c.push_reserved.ensures.items ∙ ap (λ xs. xs ++ (c.in_ok-outcome.outcome.logged ∷ [])) c.reserve.ensures.items),
)
