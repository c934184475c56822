-- What a step gives beside its reply, and why it is refused
use Rattle.std.proofs.Common.{◌≡◌, ℕ, true, refl, sym, ap, ◌∙◌, subst}
use Rattle.std.proofs.lemmas.Cmp.{tied_itself}
use Rattle.std.specs.declared.cmp.Ordering.{Ordering}
use Rattle.std.specs.Ordering.{is_eq}
use Rattle.std.specs.Prelude.{cond, Option, Some, None, Result, Ok, Err, IfOk, IfErr, IsErrAnd}
use Rattle.std.specs.Option.{option_map}
use Rattle.std.specs.FinMap.{FinMap, get, get-remove}
use Rattle.eu_base.specs.declared.settings.Config.{Config}
use Rattle.eu_base.specs.declared.faults.Fault.{Fault}
use Rattle.eu_base.specs.declared.faults.Fault.TheVariants.{OutOfMemory}
use Rattle.eu_base.specs.declared.names.Key.{Key}
use Rattle.eu_base.specs.Values.{key_cmp}
use Rattle.eu_base.proofs.KeyLemmas.{keys_total}
use Rattle.eu_model.specs.declared.views.Listed.{Listed}
use Rattle.eu_model.specs.declared.commands.Command.{Command}
use Rattle.eu_model.specs.declared.commands.Command.TheVariants.{Register, Renew, Cancel, SetStatus, UnsetStatus, Adopt, EndMinute, Update, Reconfigure, Evict, Drain, Landed, Lost}
use Rattle.eu_model.specs.declared.commands.Reply.{Reply}
use Rattle.eu_model.specs.Machine.{with_value, Machine}
use Rattle.eu_model.specs.Step.{fault}
use Rattle.eu_model.specs.Plain.{Plain, held_under, plain_instance}
use Rattle.eu_model.specs.Answers.{Answers}
use Rattle.eu_model.specs.Owned.{owns_nothing}
use Rattle.eu_model.specs.Server.{key_of}
use Rattle.eu_model.proofs.AnswerLemmas.{refused}
use Rattle.eu_model.proofs.DeterminedLemmas.{reply_is}
use Rattle.eu_model.proofs.MinuteLemmas.{end_minute_is_kept, update_is_kept, reconfigure_is_kept}
use Rattle.eu_store.proofs.TableLemmas.{by_key, get_inserted}
use Rattle.eu_clock.specs.Front.{Asks}
use Rattle.eu_core.specs.declared.decision.Change.{Change}
use Rattle.eu_core.specs.Decided.{lease_left, left}
use Rattle.eu_core.specs.Stepped.{Chooses, instance_held}

-- ---- what is held at the key of a command

get_removed : (m : FinMap key_cmp Listed) (k : Key) → get (with_value m k None) k ≡ None
get_removed m k = get-remove keys_total m k k ∙ ap (λ (r : Ordering). cond (is_eq r) None (get m k)) (tied_itself keys_total k)

pub get_changed : (m : FinMap key_cmp Listed) (k : Key) (o : Option Listed) → get (with_value m k o) k ≡ o
get_changed m k None = get_removed m k
get_changed m k (Some l) = get_inserted by_key m k l

-- it is what the decision leaves
pub held_left : (p q : Plain) (c : Command) (k : Key) (x : Change) → key_of c ≡ Some k → q ≡ left p k x
    → option_map (λ (l : Listed). l.instance) (lease_left x.lease (get p.leases k)) ≡ instance_held q c
held_left p q c k x key is =
    sym (ap (held_under q) key ∙ ap (λ (y : Plain). plain_instance y k) is ∙ ap (option_map (λ (l : Listed). l.instance)) (get_changed p.leases k (lease_left x.lease (get p.leases k))))

-- a command on a lease asks no word
pub unasked : {S : Type 0} (asks : Asks S) (p : Plain) (x : S) (c : Command) (k : Key) (t : ℕ) (reply : Reply) → key_of c ≡ Some k → Chooses asks p x c t reply x
unasked asks p x (Register n replicated) k t reply e = refl
unasked asks p x (Renew own last_dirty overridden replicated) k t reply e = refl
unasked asks p x (Cancel own replicated) k t reply e = refl
unasked asks p x (SetStatus own status last_dirty replicated) k t reply e = refl
unasked asks p x (UnsetStatus own suggested last_dirty replicated) k t reply e = refl
unasked asks p x (Adopt n) k t reply e = refl
unasked asks p x EndMinute k t reply e = refl
unasked asks p x Update k t reply e = refl
unasked asks p x (Reconfigure config) k t reply e = refl
unasked asks p x Evict k t reply e = absurd (cc)
unasked asks p x (Drain peer) k t reply e = refl
unasked asks p x (Landed peer codes) k t reply e = refl
unasked asks p x (Lost peer) k t reply e = refl

-- ---- replies that own nothing

module _ (t : ℕ) (p q : Plain) (r : Reply) where
  pub end_minute_plain : Answers p EndMinute t (Ok r) q → owns_nothing r ≡ true
  end_minute_plain a = ap owns_nothing (reply_is EndMinute t _ _ _ _ end_minute_is_kept (λ s s' x h. h) p q r a)

  pub update_plain : Answers p Update t (Ok r) q → owns_nothing r ≡ true
  update_plain a = ap owns_nothing (reply_is Update t _ _ _ _ update_is_kept (λ s s' x h. h) p q r a)

  pub reconfigure_plain : (config : Config) → Answers p (Reconfigure config) t (Ok r) q → owns_nothing r ≡ true
  reconfigure_plain config a = ap owns_nothing (reply_is (Reconfigure config) t _ _ _ _ (reconfigure_is_kept config) (λ s s' x h. h) p q r a)

-- ---- refusals

-- a refusal for that fault
pub refused_as : {X : Type 0} (r : Result X Fault) (f g : Fault) (P : Fault → Type 0) → IsErrAnd r (λ e. e ≡ f) → f ≡ g → P g → IfErr r P
refused_as (Ok x) f g P h e q = tt
refused_as (Err x) f g P h e q = subst P (sym (h ∙ e)) q

-- a refusal for want of memory
pub no_memory : {X : Type 0} (r : Result X Fault) (P : Fault → Type 0) → IsErrAnd r (λ f. f ≡ OutOfMemory) → P OutOfMemory → IfErr r P
no_memory (Ok x) P h q = tt
no_memory (Err f) P h q = subst P (sym h) q

-- a command that has no fault may want memory
pub memory_refused : (c : Command) (t : ℕ) (p : Plain) → ((s : Machine) → fault s c t ≡ None) → Answers p c t (Err OutOfMemory) p
memory_refused c t p faults = refused c t (λ q. None) faults p OutOfMemory refl

-- what holds of an outcome at each number holds of it at one
pub at_one : {X : Type 0} (r : Result X Fault) (P : X → ℕ → Type 0) (m : ℕ) → IfOk r (λ x. (n : ℕ) → P x n) → IfOk r (λ x. P x m)
at_one (Ok x) P m h = h m
at_one (Err f) P m h = tt
