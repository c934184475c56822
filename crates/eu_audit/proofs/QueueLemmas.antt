-- Steps of queues, and of what leaves them alone
use Rattle.std.proofs.Common.{◌≡◌, ◌<◌, ℕ, true, List, [], ◌∷◌, length, map, refl, sym, ap, ◌∙◌, subst, slice_index_or}
use Rattle.std.specs.Prelude.{Option, Some, None, slice_get, false, is_some}
use Rattle.std.proofs.Common.{true≢false}
use Rattle.std.proofs.lemmas.Option.{slice_get-get_or}
use Rattle.eu_model.specs.declared.commands.Command.{Command}
use Rattle.eu_model.specs.declared.commands.Command.TheVariants.{Drain, Landed, Lost}
use Rattle.eu_model.specs.declared.commands.Reply.{Reply}
use Rattle.eu_model.specs.declared.queues.Queue.{Queue}
use Rattle.eu_model.specs.Server.{PlainServer, with_task}
use Rattle.eu_audit.specs.PlainRuns.{PlainServerStep, Queued}

-- what stands at a place within, as it is lent
pub lent : {X : Type 0} (xs : List X) (i n : ℕ) (x : X) → n ≡ length xs → (true ≡ true → i < n) → x ≡ slice_index_or xs i x → slice_get xs i ≡ Some x
lent xs i n x long within is = slice_get-get_or xs i x (subst (λ m. i < m) long (within refl)) ∙ ap Some (sym is)

pub none_of : {X : Type 0} (o : Option X) → false ≡ is_some o → o ≡ None
none_of None is = refl
none_of (Some x) is = absurd (true≢false (sym is))

pub none_told : (queues : List Queue) → queues ≡ map (with_task None) queues
none_told [] = refl
none_told (q ∷ queues) = ap (λ qs. q ∷ qs) (none_told queues)

-- what speaks of no queue is a step of the registry
pub is_queued : (p : PlainServer) (c : Command) (t : ℕ) (reply : Reply) → ((peer : ℕ) → c ≡ Drain peer → ⊥) → ((peer : ℕ) (codes : List ℕ) → c ≡ Landed peer codes → ⊥)
    → ((peer : ℕ) → c ≡ Lost peer → ⊥) → Queued p c t reply ≡ PlainServerStep p c t reply
is_queued p (Drain peer) t reply not_drain not_landed not_lost = absurd (not_drain peer refl)
is_queued p (Landed peer codes) t reply not_drain not_landed not_lost = absurd (not_landed peer codes refl)
is_queued p (Lost peer) t reply not_drain not_landed not_lost = absurd (not_lost peer refl)
is_queued p c t reply not_drain not_landed not_lost = refl
