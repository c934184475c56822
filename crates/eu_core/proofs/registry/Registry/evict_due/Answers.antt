use Rattle.std.proofs.Common.{◌≡◌, ◌-◌, length, vec_len, sym, ap, ◌∙◌, subst, arith}
use Rattle.std.specs.Prelude.{Some, Ok}
use Rattle.eu_clock.specs.Front.{state_after}
use Rattle.eu_model.specs.declared.commands.Command.TheVariants.{Evict}
use Rattle.eu_model.specs.declared.commands.Reply.TheVariants.{Evicted}
use Rattle.eu_model.specs.Step.{extra_time}
use Rattle.eu_model.specs.Machine.{is_permitted}
use Rattle.eu_model.specs.Plain.{Plain}
use Rattle.eu_model.specs.Answers.{Answers}
use Rattle.eu_model.specs.PlainSteps.{plain_evicted}
use Rattle.eu_model.proofs.EvictLemmas.{evict_answers, evict_refused}
use Rattle.eu_eviction.specs.Eviction.{due, number_of, drawn}
use Rattle.eu_core.specs.Registry.{plain_of}
use Rattle.eu_core.proofs.RegisterLemmas.{moved}
use Rattle.eu_core.proofs.EvictionLemmas.{are_victims, draws}
use Rattle.eu_core.proofs.StepLemmas.{no_memory}
use Rattle.eu_core.proofs.registry.Registry.evict_due.Goals as goal

pub returns-in_err-eviction-clause-refused : goal.returns-in_err-eviction-clause-refused
returns-in_err-eviction-clause-refused g c = no_memory c.from_residual.result _ c.from_residual.ensures.1 (evict_refused c.args.moment c.args.self.now)

pub returns-clause-answers : goal.returns-clause-answers
returns-clause-answers g c =
    let p = plain_of c.self.inside in
    let t = c.args.moment in
    let v = c.in_ok-eviction.ensures in
    let vs = c.in_ok-eviction.eviction.victims.items in
    let permits = c.permitted-permitted.ensures ∙ ap (is_permitted p.config p.expected) c.last.ensures in
    let extra = c.extra_time-extra.ensures ∙ ap (λ k. extra_time k p.previous t) c.config-config.ensures in
    let keys = due c.permitted-permitted.result p.leases t c.extra_time-extra.result in
    let long : length vs ≡ vec_len c.in_ok-eviction.eviction.victims = omega arith in
    let number = long ∙ v.number ∙ ap (λ k. number_of k p.leases keys) c.config-config.ensures in
    let victims = are_victims p t c.extra_time-extra.result c.permitted-permitted.result extra permits vs v.expired v.once number in
    let left = c.left_by.new.self in
    let count : c.len.result ≡ length vs = omega (arith, c.len.ensures) in
    let fewer = c.left_by.ensures ∙ ap (λ n. record c.self.inside.threshold { expected = p.expected - n }) count in
    let new : Plain = record p { config = left.config; leases = c.run_eviction.new.leases.held; overrides = c.run_eviction.new.overrides.rows; expected = left.expected; previous = Some t } in
    let whole : new ≡ plain_evicted p t vs =
    λ i. record (plain_evicted p t vs) { config = (fewer i).config; leases = v.leases i; overrides = v.overrides i; expected = (fewer i).expected } in
    moved _ _ _ _ _ _ c.self.view_is (subst (λ q. Answers p Evict t (Ok (Evicted vs)) q) (sym whole) (evict_answers t p vs victims))

pub returns-clause-drawn : goal.returns-clause-drawn
returns-clause-drawn g c =
    let p = plain_of c.self.inside in
    let t = c.args.moment in
    let asks = g.C.Chooser.asks in
    let x = c.args.chooser.now in
    let v = c.in_ok-eviction.ensures in
    let permits = c.permitted-permitted.ensures ∙ ap (is_permitted p.config p.expected) c.last.ensures in
    let extra = c.extra_time-extra.ensures ∙ ap (λ k. extra_time k p.previous t) c.config-config.ensures in
    let keys = due c.permitted-permitted.result p.leases t c.extra_time-extra.result in
    let all = draws p t c.extra_time-extra.result c.permitted-permitted.result extra permits asks x c.run_eviction.new.chooser c.in_ok-eviction.eviction.victims.items
    (v.victims ∙ ap (λ k. drawn asks k p.leases keys x) c.config-config.ensures)
    (v.chooser ∙ ap (λ k. state_after asks (number_of k p.leases keys) (length keys) x) c.config-config.ensures) in
    λ s same. all s (same ∙ sym c.self.view_is)
