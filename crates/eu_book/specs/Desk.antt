-- What a book does that is asked
use Rattle.std.specs.Prelude.{◌≡◌, ℕ, Result, Ok, Err, None}
use Rattle.eu_base.specs.declared.faults.Fault.{Fault}
use Rattle.eu_base.specs.declared.faults.Fault.TheVariants.{OutOfMemory}
use Rattle.eu_book.specs.Account.{Account, Applies, Refuses, entry, known_fault}
use Rattle.eu_clock.specs.declared.choosers.FirstChooser.{FirstChooser}
use Rattle.eu_model.specs.declared.asks.Answer.{Answer}
use Rattle.eu_model.specs.declared.asks.Answer.TheVariants.{Did, Saw}
use Rattle.eu_model.specs.declared.asks.Ask.{Ask}
use Rattle.eu_model.specs.declared.asks.Ask.TheVariants.{Do, See}
use Rattle.eu_model.specs.Answers.{Shows}
use Rattle.eu_model.specs.View.{view}

-- the words that are drawn: always the first of what they are drawn from
abbrev pub first_asks : FirstChooser → ℕ → ℕ × FirstChooser
first_asks chooser bound = (0, chooser)

-- a command is one entry more, of the pass 0, or it is refused, where want of memory hides no fault that needs none to be known; a query is answered by what is seen of the registry
abbrev pub BookAsks : Account → Ask → ℕ → Result Answer Fault → Account → Type 0
BookAsks a (Do c) t (Ok (Did reply)) b = (number : ℕ) × (x : FirstChooser) × (x' : FirstChooser) × Applies first_asks a x (entry 0 number c t reply) b x'
BookAsks a (Do c) t (Ok (Saw v)) b = ⊥
BookAsks a (Do c) t (Err f) b = Refuses a c t f × (b ≡ a) × (f ≡ OutOfMemory → known_fault a.totals.steps a.state.queues c t ≡ None)
BookAsks a (See q) t (Ok (Did reply)) b = ⊥
BookAsks a (See q) t (Ok (Saw v)) b = Shows a.state.registry (λ s. view s q t) v × (b ≡ a)
BookAsks a (See q) t (Err f) b = (f ≡ OutOfMemory) × (b ≡ a)
