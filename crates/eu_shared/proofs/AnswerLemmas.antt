-- An answer of a lawful book
use Rattle.std.proofs.Common.{◌≡◌, ℕ, ap}
use Rattle.std.specs.Prelude.{None, Result, Ok, Err, IfOk, IfErr, OnOk}
use Rattle.eu_base.specs.declared.faults.Fault.{Fault}
use Rattle.eu_base.specs.declared.faults.Fault.TheVariants.{OutOfMemory}
use Rattle.eu_book.specs.declared.book.Receipt.{Receipt}
use Rattle.eu_book.specs.Account.{Account, Applies, IsLawful, Refuses, entry, known_fault, logged}
use Rattle.eu_clock.specs.Front.{Asks}
use Rattle.eu_model.specs.declared.commands.Command.{Command}
use Rattle.eu_shared.specs.Passes.{PassAccount, IsAnsweredBySome, IsBegunBySome, IsRefusedBySome, after_answer, after_view}

module _ (c : Command) (t : ℕ) where
  pub is_answer : {S : Type 0} (asks : Asks S) (x x' : S) (p p' : PassAccount) (a b : Account) (y : Receipt) → IsLawful a → IsLawful b → Applies asks a x (entry p.number y.number c t y.reply) b x'
      → p' ≡ after_answer p (logged c t y.reply y.number) b.first → IsAnsweredBySome asks x p (entry p.number y.number c t y.reply) x' p'
  is_answer asks x x' p p' a b y before after is told = (a, b, before, after, is, ap (λ (k : PassAccount). k.journal_first) told)

  pub is_refused : (a : Account) (f : Fault) → IsLawful a → Refuses a c t f → (f ≡ OutOfMemory → known_fault a.totals.steps a.state.queues c t ≡ None) → IsRefusedBySome c t f
  is_refused a f before is memory = (a, before, is, memory)

  -- of an outcome that is one or the other
  pub is_answered : {S : Type 0} (asks : Asks S) (x x' : S) (p p' : PassAccount) (a b : Account) (o : Result Receipt Fault) → IsLawful a → OnOk o (IsLawful b)
      → IfOk o (λ y. Applies asks a x (entry p.number y.number c t y.reply) b x') → IfOk o (λ y. p' ≡ after_answer p (logged c t y.reply y.number) b.first)
      → IfOk o (λ y. IsAnsweredBySome asks x p (entry p.number y.number c t y.reply) x' p')
  is_answered asks x x' p p' a b (Ok y) before after is told = is_answer asks x x' p p' a b y before after is told
  is_answered asks x x' p p' a b (Err f) before after is told = tt

  pub is_refused_by : (a : Account) (o : Result Receipt Fault) → IsLawful a → IfErr o (λ f. Refuses a c t f) → IfErr o (λ f. f ≡ OutOfMemory → known_fault a.totals.steps a.state.queues c t ≡ None)
      → IfErr o (λ f. IsRefusedBySome c t f)
  is_refused_by a (Ok y) before is memory = tt
  is_refused_by a (Err f) before is memory = is_refused a f before is memory

pub is_begun : (p p' : PassAccount) (a : Account) → IsLawful a → p' ≡ after_view p a.totals.steps → IsBegunBySome p p'
is_begun p p' a lawful told = (a, lawful, ap (λ (k : PassAccount). k.journal_first) told)
