-- A step that is answered so leads to one end, and so does a run
use Rattle.std.proofs.Common.{◌≡◌, ◌↔◌, ℕ, List, [], ◌∷◌, map, sym, ap, ◌∙◌, subst}
use Rattle.std.specs.Prelude.{Option, Some, slice_set}
use Rattle.eu_base.specs.declared.faults.Fault.{Fault}
use Rattle.eu_model.specs.declared.commands.Command.{Command}
use Rattle.eu_model.specs.declared.commands.Command.TheVariants.{Register, Renew, Cancel, SetStatus, UnsetStatus, Adopt, EndMinute, Update, Reconfigure, Evict, Drain, Landed, Lost}
use Rattle.eu_model.specs.declared.commands.Entry.{Entry}
use Rattle.eu_model.specs.declared.commands.Reply.{Reply}
use Rattle.eu_model.specs.declared.queues.Queue.{Queue}
use Rattle.eu_model.specs.PlainSteps.{plain_evicted, PlainStep}
use Rattle.eu_model.specs.Plain.{Plain, held_under}
use Rattle.eu_model.specs.Server.{PlainServer, key_of, task_for, with_task}
use Rattle.eu_model.proofs.EvictionLemmas.{victims_are}
use Rattle.eu_audit.specs.PlainRuns.{Turns, Queued, PlainServerStep, PlainRun}

step_once : (p : Plain) (c : Command) (t : ℕ) (reply : Reply) (a b : Plain) → PlainStep p c t reply a → PlainStep p c t reply b → a ≡ b
step_once p (Register n replicated) t reply a b x y = x.1.1 ∙ sym y.1.1
step_once p (Adopt n) t reply a b x y = x.1.1 ∙ sym y.1.1
step_once p (Renew k last_dirty overridden replicated) t reply a b x y = x.1.1 ∙ sym y.1.1
step_once p (Cancel k replicated) t reply a b x y = x.1 ∙ sym y.1
step_once p (SetStatus k status last_dirty replicated) t reply a b x y = x.1 ∙ sym y.1
step_once p (UnsetStatus k suggested last_dirty replicated) t reply a b x y = x.1 ∙ sym y.1
step_once p EndMinute t reply a b x y = x.1 ∙ sym y.1
step_once p Update t reply a b x y = x.1 ∙ sym y.1
step_once p (Reconfigure config) t reply a b x y = x.1 ∙ sym y.1
step_once p Evict t reply a b x y = x.3 ∙ ap (plain_evicted p t) (victims_are x.0 y.0 (sym x.1 ∙ y.1)) ∙ sym y.3
step_once p (Drain peer) t reply a b x y = absurd x
step_once p (Landed peer codes) t reply a b x y = absurd x
step_once p (Lost peer) t reply a b x y = absurd x

same_some : {X : Type 0} (x y : X) → Some x ≡ Some y → x ≡ y
same_some x y e = cc

turn_once : (p : PlainServer) (peer : ℕ) (refuses : Queue → Option Fault) (turn : Queue → Queue) (m n : Queue) (a b : PlainServer)
    → Turns p peer refuses turn m a → Turns p peer refuses turn n b → a ≡ b
turn_once p peer refuses turn m n a b (q, at, none, is, to) (r, at', none', is', to') =
    let same = is ∙ ap turn (same_some q r (sym at ∙ at')) ∙ sym is' in
    to ∙ ap (λ next. record p { queues = slice_set p.queues peer next }) same ∙ sym to'

queued_once : (p : PlainServer) (c : Command) (t : ℕ) (reply : Reply) (a b : PlainServer) → Queued p c t reply a → Queued p c t reply b → a ≡ b
queued_once p c t reply a b x y =
    let registry = step_once p.registry c t reply a.registry b.registry x.0 y.0 in
    let queues = x.1 ∙ ap (λ r. map (with_task (task_for c t reply (held_under r (key_of c)))) p.queues) registry ∙ sym y.1 in
    λ i. record { registry = registry i; queues = queues i }

pub server_once : (p : PlainServer) (c : Command) (t : ℕ) (reply : Reply) (a b : PlainServer) → PlainServerStep p c t reply a → PlainServerStep p c t reply b → a ≡ b
server_once p (Drain peer) t reply a b x y = turn_once p peer _ _ x.0 y.0 a b x.1 y.1
server_once p (Landed peer codes) t reply a b x y = turn_once p peer _ _ x.0 y.0 a b x.1 y.1
server_once p (Lost peer) t reply a b x y = turn_once p peer _ _ x.0 y.0 a b x.1 y.1
server_once p c t reply a b x y = queued_once p c t reply a b x y

pub run_once : (es : List Entry) (p a b : PlainServer) → PlainRun p es a → PlainRun p es b → a ≡ b
run_once [] p a b x y = x ∙ sym y
run_once (e ∷ es) p a b x y =
    let mid = server_once p e.command e.moment e.reply x.0 y.0 x.1 y.1 in
    run_once es y.0 a b (subst (λ m. PlainRun m es a) mid x.2) y.2

-- what an entry leads to leads where the entries do
pub run_from : (e : Entry) (es : List Entry) (p next end : PlainServer) → PlainServerStep p e.command e.moment e.reply next → PlainRun next es end ↔ PlainRun p (e ∷ es) end
run_from e es p next end step = (
  λ run. (next, step, run),
  λ run. subst (λ mid. PlainRun mid es end) (server_once p e.command e.moment e.reply run.0 next run.1 step) run.2,
)
