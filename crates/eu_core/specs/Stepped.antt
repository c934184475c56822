-- What a step of a registry gives, and how an eviction asks for words
use Rattle.std.specs.Prelude.{◌≡◌, ℕ, List, length, Bool, [], replicate, Option, Some, None, Ok}
use Rattle.eu_base.specs.declared.names.Key.{Key}
use Rattle.eu_clock.specs.Front.{Asks, front, state_after}
use Rattle.eu_model.specs.Machine.{Machine}
use Rattle.eu_model.specs.Step.{due, number_evicted}
use Rattle.eu_model.specs.Plain.{Plain, plain, held_under}
use Rattle.eu_base.specs.declared.instances.Instance.{Instance}
use Rattle.eu_model.specs.declared.commands.Command.{Command}
use Rattle.eu_model.specs.declared.commands.Command.TheVariants.{Evict}
use Rattle.eu_model.specs.declared.commands.Reply.{Reply}
use Rattle.eu_model.specs.declared.commands.Reply.TheVariants.{Evicted}
use Rattle.eu_model.specs.Server.{key_of}
use Rattle.eu_model.specs.Answers.{Answers}
use Rattle.eu_core.specs.declared.step.Stepped.{Stepped}
use Rattle.eu_core.specs.Answered.{IsAnswered}

-- ---- how the victims of an eviction are drawn

-- those that the chooser's next words draw from the keys that are due, in key order
abbrev pub drawn_victims : {S : Type 0} → Asks S → Machine → ℕ → S → List Key
drawn_victims asks s t x = front asks (number_evicted s t) (due s t) x

-- the chooser after that
abbrev pub drawn_state : {S : Type 0} → Asks S → Machine → ℕ → S → S
drawn_state asks s t x = state_after asks (number_evicted s t) (length (due s t)) x

-- of each machine of that plain form, these are the victims, and this is the chooser after
abbrev pub Draws : {S : Type 0} → Asks S → Plain → ℕ → S → List Key → S → Type 0
Draws asks p t x victims x' = (s : Machine) → plain s ≡ p → (victims ≡ drawn_victims asks s t x) × (x' ≡ drawn_state asks s t x)

-- ---- what a step gives: its reply for each use, and so many copies of the instance that is held after it

-- the instance that is held under the key of a command; none, where it names no key
abbrev pub instance_held : Plain → Command → Option Instance
instance_held p c = held_under p (key_of c)

-- so many copies, where there is one
abbrev pub copies_of : {X : Type 0} → ℕ → Option X → List X
copies_of m None = []
copies_of m (Some x) = replicate m x

-- a step that leads from old to new, with its reply for each use and m copies of the instance that is held after it
pub record Acts (old : Plain) (c : Command) (t : ℕ) (logs : Bool) (m : ℕ) (s : Stepped) (new : Plain) : Type 0 where
  pub answers : Answers old c t (Ok s.answered.reply) new
  pub same : IsAnswered logs s.answered
  pub held_are : s.held.items ≡ copies_of m (instance_held new c)

-- an eviction has its victims drawn; no other command asks the chooser
abbrev pub Chooses : {S : Type 0} → Asks S → Plain → S → Command → ℕ → Reply → S → Type 0
Chooses asks old x Evict t reply x' = (victims : List Key) × (reply ≡ Evicted victims) × Draws asks old t x victims x'
Chooses asks old x _ t reply x' = x' ≡ x

-- the same with the chooser before and after
pub record Steps {S : Type 0} (asks : Asks S) (old : Plain) (x : S) (c : Command) (t : ℕ) (logs : Bool) (m : ℕ) (s : Stepped) (new : Plain) (x' : S) : Type 0 where
  pub acts : Acts old c t logs m s new
  pub chooses : Chooses asks old x c t s.answered.reply x'
