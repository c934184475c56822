-- What is copied for each peer, what each is told, and what is done with one peer's outbox
use Rattle.std.proofs.Common.{◌≡◌, ◌≢◌, ◌⊎◌, inl, inr, ℕ, zero, suc, ◌<◌, true, false, true≢false, List, [], ◌∷◌, ◌++◌, length, map, Option, Some, None, Result, OnOk, OnErr, refl, sym, ap, ◌∙◌, subst, arith}
use Rattle.std.specs.Prelude.{Ok, Err, ◌==◌, Bool, if◌then◌else◌, is_some, not, option_to_list, replicate, slice_get, slice_index_or, slice_set}
use Rattle.std.proofs.Math.Seq.{map-set_same}
use Rattle.std.specs.Option.{option_map}
use Rattle.std.proofs.lemmas.List.{append-nil, length-replicate, map-append, map-id, map-set}
use Rattle.std.proofs.lemmas.Option.{slice_get-map, slice_get-get_or, slice_get_past, get_or_from_slice_get}
use Rattle.eu_base.specs.declared.faults.Fault.{Fault}
use Rattle.eu_base.specs.declared.faults.Fault.TheVariants.{Busy, CountDiffers, EmptyBatch, NoFlight, NoPeer, OutOfMemory}
use Rattle.eu_base.specs.declared.instances.Instance.{Instance}
use Rattle.eu_core.specs.Stepped.{copies_of}
use Rattle.eu_model.specs.declared.commands.Command.{Command}
use Rattle.eu_model.specs.declared.commands.Command.TheVariants.{Register, Renew, Cancel, SetStatus, UnsetStatus, Drain, Landed, Lost}
use Rattle.eu_model.specs.declared.commands.Reply.{Reply}
use Rattle.eu_model.specs.declared.commands.Reply.TheVariants.{Batch, Settled}
use Rattle.eu_model.specs.declared.queues.Queue.{Queue}
use Rattle.eu_model.specs.Answers.{Answers, IsRefusal, ServerAnswers, IsServerAnswer}
use Rattle.eu_model.specs.Plain.{Plain, held_under}
use Rattle.eu_model.specs.Server.{drained, drain_fault, live, landed, landed_fault, lost, lost_fault, Server, queue_fault, server_fault, key_of, is_for_peers, task_for, with_task}
use Rattle.eu_model.proofs.ServedLemmas.{server, registry_answers, drain_answers, landed_answers, lost_answers, drain_refuses, landed_refuses, lost_refuses, drain_of_nobody, landed_at_nobody, lost_to_nobody}
use Rattle.eu_outbox.specs.Boxed.{Boxed}
use Rattle.eu_base.specs.Limits.{most_steps}
use Rattle.eu_book.specs.Account.{queues_fault}
use Rattle.eu_book.specs.Peers.{queues_of, server_with, told_key, IsRefused, QueuesAnswer}

-- ---- copies

abbrev heads : {X : Type 0} → X → List X → X
heads d [] = d
heads d (x ∷ xs) = x

abbrev tails : {X : Type 0} → List X → List X
tails [] = []
tails (x ∷ xs) = xs

not_empty : {X : Type 0} (y : X) (ys : List X) → y ∷ ys ≡ [] → ⊥
not_empty y ys e = cc

-- the last of some equal values, and those before it
pub popped : {X : Type 0} (m : ℕ) (x y : X) (rest : List X) → rest ++ y ∷ [] ≡ replicate (suc m) x → (y ≡ x) × (rest ≡ replicate m x)
popped zero x y [] e = (ap (heads y) e, refl)
popped zero x y (z ∷ []) e = cc
popped zero x y (z ∷ (w ∷ rest)) e = cc
popped (suc m) x y [] e = cc
popped (suc m) x y (z ∷ rest) e =
    let before = popped m x y rest (ap tails e) in
    (before.0, λ i. ap (heads z) e i ∷ before.1 i)

-- the last of some copies, where there are any, and those before it; `old` is long as n says, and something was taken from it if it could be
pub pop_copies : {X : Type 0} (m n : ℕ) (i last : Option X) (rest old : List X) → old ≡ rest ++ option_to_list last → old ≡ copies_of (suc m) i → n ≡ length old
    → (0 < n → is_some last ≡ true) → (last ≡ i) × (rest ≡ copies_of m i)
pop_copies m n None None rest old e is long some = (refl, sym (append-nil rest) ∙ sym e ∙ is)
pop_copies m n None (Some y) [] old e is long some = absurd (not_empty y [] (sym e ∙ is))
pop_copies m n None (Some y) (z ∷ rest) old e is long some = absurd (not_empty z (rest ++ y ∷ []) (sym e ∙ is))
pop_copies m n (Some x) None rest old e is long some =
    let many : n ≡ suc m = long ∙ ap length is ∙ length-replicate (suc m) x in
    absurd (true≢false (sym (some (omega (arith, many)))))
pop_copies m n (Some x) (Some y) rest old e is long some = let p = popped m x y rest (sym e ∙ is) in (ap Some p.0, p.1)

-- ---- what is told

pub untold : (c : Command) (t : ℕ) (r : Reply) (i : Option Instance) → told_key c ≡ None → task_for c t r i ≡ None
untold (Register n false) t r i e = cc
untold (Renew k last_dirty overridden false) t r i e = cc
untold (Cancel k false) t r i e = cc
untold (SetStatus k status last_dirty false) t r i e = cc
untold (UnsetStatus k suggested last_dirty false) t r i e = cc
untold c t r i e = refl

-- the registry's step alone, where nobody is told of it
untold_queues : (boxes : List Boxed) (c : Command) (t : ℕ) (reply : Reply) (i : Option Instance) → (told_key c ≡ None) ⊎ (length boxes ≡ 0)
    → map (with_task (task_for c t reply i)) (queues_of boxes) ≡ queues_of boxes
untold_queues boxes c t reply i (inl none) = ap (λ x. map (with_task x) (queues_of boxes)) (untold c t reply i none) ∙ map-id (queues_of boxes)
untold_queues [] c t reply i (inr none) = refl
untold_queues (b ∷ boxes) c t reply i (inr none) = absurd (omega (arith, none))

pub told_nobody : (p : Plain) (boxes : List Boxed) (c : Command) (t : ℕ) (reply : Reply) (new : Plain) → is_for_peers c ≡ false → (told_key c ≡ None) ⊎ (length boxes ≡ 0)
    → Answers p c t (Ok reply) new → ServerAnswers (server_with p boxes) c t (Ok reply) (server_with new boxes)
told_nobody p boxes c t reply new kind none answers =
    subst (λ qs. ServerAnswers (server_with p boxes) c t (Ok reply) (server new qs)) (untold_queues boxes c t reply (held_under new (key_of c)) none)
    (registry_answers p (queues_of boxes) c t reply new kind answers)

-- the registry's step, of which each peer is told
pub told_all : (p : Plain) (old boxes : List Boxed) (c : Command) (t : ℕ) (reply : Reply) (new : Plain) → is_for_peers c ≡ false → Answers p c t (Ok reply) new
    → queues_of boxes ≡ map (with_task (task_for c t reply (held_under new (key_of c)))) (queues_of old)
    → ServerAnswers (server_with p old) c t (Ok reply) (server_with new boxes)
told_all p old boxes c t reply new kind answers told =
    subst (λ qs. ServerAnswers (server_with p old) c t (Ok reply) (server new qs)) (sym told) (registry_answers p (queues_of old) c t reply new kind answers)

-- queues of which each is changed, and one more
pub told_push : (f : Queue → Queue) (old xs ys : List Boxed) (last next : Boxed) (new : List Boxed) → old ≡ xs ++ last ∷ [] → new ≡ ys ++ next ∷ []
    → queues_of ys ≡ map f (queues_of xs) → next.queue ≡ f last.queue → queues_of new ≡ map f (queues_of old)
told_push f old xs ys last next new from to others one =
    ap queues_of to ∙ map-append (λ b. b.queue) ys (next ∷ []) ∙ (λ i. others i ++ one i ∷ [])
    ∙ sym (ap (λ l. map f (queues_of l)) from ∙ ap (map f) (map-append (λ b. b.queue) xs (last ∷ [])) ∙ map-append f (queues_of xs) (last.queue ∷ []))

-- ---- results

pub on_ok : {A E : Type 0} {P Q R : Type 0} → (r : Result A E) → (P → Q → R) → OnOk r P → OnOk r Q → OnOk r R
on_ok (Ok x) f p q = f p q
on_ok (Err e) f p q = tt

pub on_err : {A E : Type 0} {P Q : Type 0} → (r : Result A E) → (P → Q) → OnErr r P → OnErr r Q
on_err (Ok x) f p = tt
on_err (Err e) f p = f p

pub always : {A E : Type 0} {P : Type 0} → (r : Result A E) → P → OnOk r P
always (Ok x) p = p
always (Err e) p = tt

-- ---- places

-- what stands at a place within, as it is lent
pub lent : {X : Type 0} (xs : List X) (i n : ℕ) (x : X) → n ≡ length xs → (true ≡ true → i < n) → x ≡ slice_index_or xs i x → slice_get xs i ≡ Some x
lent xs i n x long within is = slice_get-get_or xs i x (subst (λ m. i < m) long (within refl)) ∙ ap Some (sym is)

pub past : {X : Type 0} (xs : List X) (i n : ℕ) → n ≡ length xs → (i < n → false ≡ true) → slice_get xs i ≡ None
past xs i n long within = slice_get_past xs i (omega (arith, long, λ (lt : i < n). true≢false (sym (within lt))))

-- ---- one peer's outbox

module _ (boxes : List Boxed) (peer : ℕ) (b : Boxed) (found : slice_get boxes peer ≡ Some b) where
  queue_at : slice_get (queues_of boxes) peer ≡ Some b.queue
  queue_at = slice_get-map (λ x. x.queue) boxes peer ∙ ap (option_map (λ x. x.queue)) found

  -- with what its queue becomes
  with_queue : (next : Boxed) (q : Queue) → next.queue ≡ q → ◌≡◌ {A = Queue × List Queue} (q, slice_set (queues_of boxes) peer q) (next.queue, queues_of (slice_set boxes peer next))
  with_queue next q is i = (sym is i, (ap (slice_set (queues_of boxes) peer) (sym is) ∙ sym (map-set (λ x. x.queue) boxes peer next)) i)

  -- with an outbox of the same queue, nothing is changed
  pub same_queue : (next : Boxed) → next.queue ≡ b.queue → queues_of (slice_set boxes peer next) ≡ queues_of boxes
  same_queue next is = map-set_same (λ x. x.queue) boxes peer next b (is ∙ ap (λ x. x.queue) (sym (get_or_from_slice_get boxes peer b b found)))

  pub drains : (t : ℕ) (next : Boxed) → drain_fault t b.queue ≡ None → next.queue ≡ drained t b.queue
      → QueuesAnswer boxes (Drain peer) t (Ok (Batch next.queue.flight)) (slice_set boxes peer next)
  drains t next none is p =
      subst (λ x. ServerAnswers (server_with p boxes) (Drain peer) t (Ok (Batch x.0.flight)) (server p x.1)) (with_queue next (drained t b.queue) is)
      (drain_answers p (queues_of boxes) peer b.queue queue_at t none)

  pub lands : (t : ℕ) (codes : List ℕ) (next : Boxed) → landed_fault codes b.queue ≡ None → next.queue ≡ landed t codes b.queue
      → QueuesAnswer boxes (Landed peer codes) t (Ok Settled) (slice_set boxes peer next)
  lands t codes next none is p =
      subst (λ x. ServerAnswers (server_with p boxes) (Landed peer codes) t (Ok Settled) (server p x.1)) (with_queue next (landed t codes b.queue) is)
      (landed_answers p (queues_of boxes) peer b.queue queue_at t codes none)

  pub loses : (t : ℕ) (next : Boxed) → lost_fault b.queue ≡ None → next.queue ≡ lost t b.queue
      → QueuesAnswer boxes (Lost peer) t (Ok Settled) (slice_set boxes peer next)
  loses t next none is p =
      subst (λ x. ServerAnswers (server_with p boxes) (Lost peer) t (Ok Settled) (server p x.1)) (with_queue next (lost t b.queue) is)
      (lost_answers p (queues_of boxes) peer b.queue queue_at t none)

  pub refuses_to_drain : (t : ℕ) (f : Fault) → IsRefusal (drain_fault t b.queue) f → QueuesAnswer boxes (Drain peer) t (Err f) boxes
  refuses_to_drain t f is p = drain_refuses p (queues_of boxes) peer b.queue queue_at t f is

  pub refuses_to_land : (t : ℕ) (codes : List ℕ) (f : Fault) → IsRefusal (landed_fault codes b.queue) f → QueuesAnswer boxes (Landed peer codes) t (Err f) boxes
  refuses_to_land t codes f is p = landed_refuses p (queues_of boxes) peer b.queue queue_at t codes f is

  pub refuses_to_lose : (t : ℕ) (f : Fault) → IsRefusal (lost_fault b.queue) f → QueuesAnswer boxes (Lost peer) t (Err f) boxes
  refuses_to_lose t f is p = lost_refuses p (queues_of boxes) peer b.queue queue_at t f is

-- ---- no peer of that number

module _ (boxes : List Boxed) (peer : ℕ) (none : slice_get boxes peer ≡ None) where
  nobody_at : slice_get (queues_of boxes) peer ≡ None
  nobody_at = slice_get-map (λ x. x.queue) boxes peer ∙ ap (option_map (λ x. x.queue)) none

  pub nobody_drains : (t : ℕ) → QueuesAnswer boxes (Drain peer) t (Err NoPeer) boxes
  nobody_drains t p = drain_of_nobody p (queues_of boxes) peer nobody_at t

  pub nobody_lands : (t : ℕ) (codes : List ℕ) → QueuesAnswer boxes (Landed peer codes) t (Err NoPeer) boxes
  nobody_lands t codes p = landed_at_nobody p (queues_of boxes) peer nobody_at t codes

  pub nobody_loses : (t : ℕ) → QueuesAnswer boxes (Lost peer) t (Err NoPeer) boxes
  nobody_loses t p = lost_to_nobody p (queues_of boxes) peer nobody_at t

-- ---- what a queue refuses

-- a server refuses what one of its queues does
refused_by_queue : (s : Server) (c : Command) (t : ℕ) (f : Fault) → queues_fault s.queues c t ≡ Some f → server_fault s c t ≡ Some f
refused_by_queue s (Drain peer) t f is = is
refused_by_queue s (Landed peer codes) t f is = is
refused_by_queue s (Lost peer) t f is = is
refused_by_queue s c t f is = cc

pub queue_refuses : (p : Plain) (boxes : List Boxed) (c : Command) (t : ℕ) (f : Fault) → queues_fault (queues_of boxes) c t ≡ Some f
    → ServerAnswers (server_with p boxes) c t (Err f) (server_with p boxes)
unfolding ServerAnswers IsServerAnswer
queue_refuses p boxes c t f is s at =
    (subst (λ x. IsRefusal x f) (sym (refused_by_queue s c t f (ap (λ x. queues_fault x.queues c t) at ∙ is))) refl, sym at)

-- no queue refuses for want of memory
drains_with_memory : (t : ℕ) (q : Queue) → drain_fault t q ≡ Some OutOfMemory → ⊥
drains_with_memory t q is = by (not (length q.flight == 0)) (length (live t q.waiting) == 0) is
  where
    by : (a b : Bool) → (if a then Some Busy else if b then Some EmptyBatch else None) ≡ Some OutOfMemory → ⊥
    by true b e = cc
    by false true e = cc
    by false false e = cc

lands_with_memory : (codes : List ℕ) (q : Queue) → landed_fault codes q ≡ Some OutOfMemory → ⊥
lands_with_memory codes q is = by (length q.flight == 0) (not (length codes == length q.flight)) is
  where
    by : (a b : Bool) → (if a then Some NoFlight else if b then Some CountDiffers else None) ≡ Some OutOfMemory → ⊥
    by true b e = cc
    by false true e = cc
    by false false e = cc

loses_with_memory : (q : Queue) → lost_fault q ≡ Some OutOfMemory → ⊥
loses_with_memory q is = by (length q.flight == 0) is
  where
    by : (a : Bool) → (if a then Some NoFlight else None) ≡ Some OutOfMemory → ⊥
    by true e = cc
    by false e = cc

at_queue : (found : Option Queue) (refuses : Queue → Option Fault) → ((q : Queue) → refuses q ≡ Some OutOfMemory → ⊥) → queue_fault found refuses ≡ Some OutOfMemory → ⊥
at_queue None refuses never is = cc
at_queue (Some q) refuses never is = never q is

pub queues_want_no_memory : (qs : List Queue) (c : Command) (t : ℕ) → queues_fault qs c t ≡ Some OutOfMemory → ⊥
queues_want_no_memory qs (Drain peer) t is = at_queue (slice_get qs peer) (drain_fault t) (drains_with_memory t) is
queues_want_no_memory qs (Landed peer codes) t is = at_queue (slice_get qs peer) (landed_fault codes) (lands_with_memory codes) is
queues_want_no_memory qs (Lost peer) t is = at_queue (slice_get qs peer) lost_fault loses_with_memory is
queues_want_no_memory qs c t is = cc

-- after fewer steps than are counted at most, what is known without memory is what a queue refuses
pub early_refusal : (steps : ℕ) (p : Plain) (boxes : List Boxed) (c : Command) (t : ℕ) (f : Fault) → steps ≢ most_steps → queues_fault (queues_of boxes) c t ≡ Some f
    → IsRefused steps (server_with p boxes) c t f
early_refusal steps p boxes c t f fewer is = inr (fewer, inr (queue_refuses p boxes c t f is))

pub never_wants : (qs : List Queue) (c : Command) (t : ℕ) (f : Fault) {X : Type 0} → queues_fault qs c t ≡ Some f → f ≡ OutOfMemory → X
never_wants qs c t f is e = absurd (queues_want_no_memory qs c t (is ∙ ap Some e))
