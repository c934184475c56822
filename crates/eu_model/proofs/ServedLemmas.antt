-- What a registry and the queues of its peers answer together
use Rattle.std.proofs.Common.{◌≡◌, ℕ, false, List, map, Option, Some, None, refl, sym, ap, ◌∙◌, subst}
use Rattle.std.specs.Prelude.{Ok, Err, slice_get, slice_set}
use Rattle.eu_base.specs.declared.faults.Fault.{Fault}
use Rattle.eu_base.specs.declared.faults.Fault.TheVariants.{NoPeer}
use Rattle.eu_model.specs.declared.commands.Command.{Command}
use Rattle.eu_model.specs.declared.commands.Command.TheVariants.{Drain, Landed, Lost}
use Rattle.eu_model.specs.declared.commands.Reply.{Reply}
use Rattle.eu_model.specs.declared.commands.Reply.TheVariants.{Batch, Settled}
use Rattle.eu_model.specs.declared.queues.Queue.{Queue}
use Rattle.eu_model.specs.Answers.{Answers, IsAnswer, IsRefusal, ServerAnswers, IsServerAnswer}
use Rattle.eu_model.specs.Plain.{Plain, held_under}
use Rattle.eu_model.specs.Server.{drained, drain_fault, landed, landed_fault, lost, lost_fault, Server, PlainServer, plain_server, instance_at, key_of, is_for_peers, task_for, with_task, queue_fault, server_fault, TurnsQueue, ServerStep}
use Rattle.eu_model.specs.Step.{fault}
use Rattle.eu_model.proofs.ServerLemmas.{MachineStep, instance-kept}

abbrev pub server : Plain → List Queue → PlainServer
server p qs = record { registry = p; queues = qs }

-- ---- the registry

is_machine_step : (s : Server) (c : Command) (t : ℕ) (reply : Reply) (new : Server) → is_for_peers c ≡ false → MachineStep s c t reply new → ServerStep s c t reply new
is_machine_step s (Drain peer) t reply new e step = cc
is_machine_step s (Landed peer codes) t reply new e step = cc
is_machine_step s (Lost peer) t reply new e step = cc
is_machine_step s c t reply new e step = step

is_machine_fault : (s : Server) (c : Command) (t : ℕ) → is_for_peers c ≡ false → server_fault s c t ≡ fault s.machine c t
is_machine_fault s (Drain peer) t e = cc
is_machine_fault s (Landed peer codes) t e = cc
is_machine_fault s (Lost peer) t e = cc
is_machine_fault s c t e = refl

-- a step of the registry, whose task goes into each queue, is a step of the server
pub registry_answers : (p : Plain) (qs : List Queue) (c : Command) (t : ℕ) (reply : Reply) (new : Plain) → is_for_peers c ≡ false → Answers p c t (Ok reply) new
    → ServerAnswers (server p qs) c t (Ok reply) (server new (map (with_task (task_for c t reply (held_under new (key_of c)))) qs))
unfolding Answers IsAnswer ServerAnswers IsServerAnswer
registry_answers p qs c t reply new e answers s at =
    let answer = answers s.machine (ap (λ x. x.registry) at) in
    let next = answer.1.0 in
    let held = instance-kept next (key_of c) ∙ ap (λ x. held_under x (key_of c)) answer.1.2 in
    let to : Server = record { machine = next; queues = map (with_task (task_for c t reply (instance_at next (key_of c)))) s.queues } in (
      is_machine_fault s c t e ∙ answer.0,
      (to, is_machine_step s c t reply to e (answer.1.1, refl), λ i. server (answer.1.2 i) (map (with_task (task_for c t reply (held i))) (at i).queues)),
    )

-- a refusal of the registry is one of the server
pub registry_refuses : (p : Plain) (qs : List Queue) (c : Command) (t : ℕ) (f : Fault) → is_for_peers c ≡ false → Answers p c t (Err f) p → ServerAnswers (server p qs) c t (Err f) (server p qs)
unfolding Answers IsAnswer ServerAnswers IsServerAnswer
registry_refuses p qs c t f e answers s at = (subst (λ x. IsRefusal x f) (sym (is_machine_fault s c t e)) (answers s.machine (ap (λ x. x.registry) at)).0, sym at)

-- ---- queues

turns : (p : Plain) (qs : List Queue) (peer : ℕ) (turn : Queue → Queue) (q : Queue) (s : Server) → slice_get qs peer ≡ Some q → plain_server s ≡ server p qs
    → (new : Server) × TurnsQueue s peer turn (turn q) new × (plain_server new ≡ server p (slice_set qs peer (turn q)))
turns p qs peer turn q s found at = (
  record s { queues = slice_set s.queues peer (turn q) },
  (q, ap (λ x. slice_get x.queues peer) at ∙ found, refl, refl),
  λ i. server (at i).registry (slice_set (at i).queues peer (turn q)),
)

fault_at : (p : Plain) (qs : List Queue) (peer : ℕ) (refuses : Queue → Option Fault) (found : Option Queue) (s : Server) → slice_get qs peer ≡ found → plain_server s ≡ server p qs
    → queue_fault (slice_get s.queues peer) refuses ≡ queue_fault found refuses
fault_at p qs peer refuses found s is at = ap (λ x. queue_fault x refuses) (ap (λ x. slice_get x.queues peer) at ∙ is)

module _ (p : Plain) (qs : List Queue) (peer : ℕ) (q : Queue) (found : slice_get qs peer ≡ Some q) where
  pub drain_answers : (t : ℕ) → drain_fault t q ≡ None → ServerAnswers (server p qs) (Drain peer) t (Ok (Batch (drained t q).flight)) (server p (slice_set qs peer (drained t q)))
  unfolding ServerAnswers IsServerAnswer
  drain_answers t none s at =
      let to = turns p qs peer (drained t) q s found at in
      (fault_at p qs peer (drain_fault t) (Some q) s found at ∙ none, (to.0, (drained t q, to.1, refl), to.2))

  pub landed_answers : (t : ℕ) (codes : List ℕ) → landed_fault codes q ≡ None → ServerAnswers (server p qs) (Landed peer codes) t (Ok Settled) (server p (slice_set qs peer (landed t codes q)))
  unfolding ServerAnswers IsServerAnswer
  landed_answers t codes none s at =
      let to = turns p qs peer (landed t codes) q s found at in
      (fault_at p qs peer (landed_fault codes) (Some q) s found at ∙ none, (to.0, (landed t codes q, to.1, refl), to.2))

  pub lost_answers : (t : ℕ) → lost_fault q ≡ None → ServerAnswers (server p qs) (Lost peer) t (Ok Settled) (server p (slice_set qs peer (lost t q)))
  unfolding ServerAnswers IsServerAnswer
  lost_answers t none s at =
      let to = turns p qs peer (lost t) q s found at in
      (fault_at p qs peer lost_fault (Some q) s found at ∙ none, (to.0, (lost t q, to.1, refl), to.2))

  pub drain_refuses : (t : ℕ) (f : Fault) → IsRefusal (drain_fault t q) f → ServerAnswers (server p qs) (Drain peer) t (Err f) (server p qs)
  unfolding ServerAnswers IsServerAnswer
  drain_refuses t f is s at = (subst (λ x. IsRefusal x f) (sym (fault_at p qs peer (drain_fault t) (Some q) s found at)) is, sym at)

  pub landed_refuses : (t : ℕ) (codes : List ℕ) (f : Fault) → IsRefusal (landed_fault codes q) f → ServerAnswers (server p qs) (Landed peer codes) t (Err f) (server p qs)
  unfolding ServerAnswers IsServerAnswer
  landed_refuses t codes f is s at = (subst (λ x. IsRefusal x f) (sym (fault_at p qs peer (landed_fault codes) (Some q) s found at)) is, sym at)

  pub lost_refuses : (t : ℕ) (f : Fault) → IsRefusal (lost_fault q) f → ServerAnswers (server p qs) (Lost peer) t (Err f) (server p qs)
  unfolding ServerAnswers IsServerAnswer
  lost_refuses t f is s at = (subst (λ x. IsRefusal x f) (sym (fault_at p qs peer lost_fault (Some q) s found at)) is, sym at)

module _ (p : Plain) (qs : List Queue) (peer : ℕ) (none : slice_get qs peer ≡ None) where
  pub drain_of_nobody : (t : ℕ) → ServerAnswers (server p qs) (Drain peer) t (Err NoPeer) (server p qs)
  unfolding ServerAnswers IsServerAnswer
  drain_of_nobody t s at = (subst (λ x. IsRefusal x NoPeer) (sym (fault_at p qs peer (drain_fault t) None s none at)) refl, sym at)

  pub landed_at_nobody : (t : ℕ) (codes : List ℕ) → ServerAnswers (server p qs) (Landed peer codes) t (Err NoPeer) (server p qs)
  unfolding ServerAnswers IsServerAnswer
  landed_at_nobody t codes s at = (subst (λ x. IsRefusal x NoPeer) (sym (fault_at p qs peer (landed_fault codes) None s none at)) refl, sym at)

  pub lost_to_nobody : (t : ℕ) → ServerAnswers (server p qs) (Lost peer) t (Err NoPeer) (server p qs)
  unfolding ServerAnswers IsServerAnswer
  lost_to_nobody t s at = (subst (λ x. IsRefusal x NoPeer) (sym (fault_at p qs peer lost_fault None s none at)) refl, sym at)
