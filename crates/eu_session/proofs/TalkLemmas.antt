-- What one turn comes to, and how turns that stand apart make one session.
use Rattle.std.proofs.Common.{◌≡◌, inl, inr, eqb, ℕ, ◌+◌, ◌<◌, Bool, true, false, List, [], ◌∷◌, ◌++◌, Option, Some, None, Result, Ok, Err, refl, sym, subst, ap, ◌∙◌, append_assoc, append-nil, length-append, arith}
use Rattle.std.proofs.KnownBytes.{Appends-trans, Keeps-refl}
use Rattle.std.proofs.lemmas.List.Concat.{flat_map-append}
use Rattle.std.specs.List.{AllByRecursion}
use Rattle.std.specs.Io.KnownBytes.{Appends}
use Rattle.eu_base.specs.declared.faults.Fault.{Fault}
use Rattle.eu_framing.specs.declared.request.Request.{Request}
use Rattle.eu_framing.specs.Message.{FindsNext, Between}
use Rattle.eu_http.specs.declared.policy.Policy.{Policy}
use Rattle.eu_http.specs.Response.{response}
use Rattle.eu_model.proofs.ChainLemmas.{chain_push, all_push}
use Rattle.eu_model.specs.Chain.{Chain}
use Rattle.eu_model.specs.declared.asks.Answer.{Answer}
use Rattle.eu_model.specs.declared.asks.Ask.{Ask}
use Rattle.eu_session.specs.declared.faults.SessionFault.{SessionFault}
use Rattle.eu_session.specs.declared.talk.Turned.TheVariants.{GoesOn, Ended}
use Rattle.eu_session.specs.Session.{Turn, text_of, refusal, is_last, Standing, Step, IsOpen, Part, Session}
use Rattle.eu_session.specs.Steps.{IsInside, Comes, AnswersTo, RefusesBy}
use Rattle.eu_session.specs.Talk.{Takes, StepOver, SessionOver, PartsJoin, PartsEnd, PartsCarry, PartsJoinOver, PartsEndOver}
use Rattle.eu_session.proofs.SessionLemmas.{Met, neither, before_last, inside_breaks, refused_unread, answered_unread, step_of, ends_answering, ends_refusing}

chain_on : {S T : Type 0} (step : S → T → S → Type 0) (old : S) (xs : List T) (mid : S) (ys : List T) (new : S) → Chain step old xs mid → Chain step mid ys new → Chain step old (xs ++ ys) new
chain_on step old xs mid [] new done e = subst (λ zs. Chain step old zs new) (sym (append-nil xs)) (subst (Chain step old xs) (sym e) done)
chain_on step old xs mid (y ∷ ys) new done (next, here, rest) =
    subst (λ zs. Chain step old zs new) (append_assoc xs (y ∷ []) ys) (chain_on step old (xs ++ y ∷ []) next ys new (chain_push step old xs mid y next done here) rest)

all_on : {T : Type 0} (P : T → Type 0) (xs ys : List T) → AllByRecursion P xs → AllByRecursion P ys → AllByRecursion P (xs ++ ys)
all_on P xs [] done rest = subst (AllByRecursion P) (sym (append-nil xs)) done
all_on P xs (y ∷ ys) done rest = subst (AllByRecursion P) (append_assoc xs (y ∷ []) ys) (all_on P (xs ++ y ∷ []) ys (all_push P xs y done rest.0) rest.1)

-- a part and the next are one
part_on : {S : Type 0} (step : S → Turn → S → Type 0) (n m k : ℕ) (old mid new : S) (before held after : Option (List ℕ))
    → Part step n m old mid before held → Part step m k mid new held after → Part step n k old new before after
part_on step n m k old mid new before held after x y = record {
  turns = x.turns ++ y.turns;
  chain = chain_on step old x.turns mid y.turns new x.chain y.chain;
  count = omega (arith, x.count, y.count, length-append x.turns y.turns);
  few = y.few;
  each = all_on IsOpen x.turns y.turns x.each y.each;
  written = subst (Appends before after) (sym (flat_map-append text_of x.turns y.turns)) (Appends-trans before held after _ _ x.written y.written);
}

module _ {D C : Type 0} (policy : Policy) (asked : D → Ask → ℕ → Result Answer Fault → D → Type 0) (tells : C → ℕ → C → Type 0) where
  -- ---- the laws

  pub parts_join : PartsJoin policy asked tells
  parts_join n m k old mid new before held after x y = part_on (Step policy asked tells) n m k old mid new before held after x y

  pub parts_end : PartsEnd policy asked tells
  parts_end n m old mid new s held ahead (Ok GoesOn) result x takes never = absurd never
  parts_end n m old mid new s held ahead (Ok (Ended k)) result x takes is =
      subst (λ r. Session policy asked tells old new s r) (sym is) (record { n = n; last = mid; held = held; goes_on = x; ahead = ahead; unread = tt; ends = takes.1 })
  parts_end n m old mid new s held ahead (Err fault) result x takes is =
      subst (λ r. Session policy asked tells old new s r) (sym is) (record { n = n; last = mid; held = held; goes_on = x; ahead = ahead; unread = takes.1; ends = takes.2 })

  chain_over : (old : Standing D C) (ts : List Turn) (new : Standing D C) → Chain (Step policy asked tells) old ts new → Chain (StepOver policy asked tells) old.left ts new.left
  chain_over old [] new e = ap (λ s. s.left) e
  chain_over old (t ∷ ts) new (mid, here, rest) =
      (mid.left, record { desk = old.desk; clock = old.clock; desk' = mid.desk; clock' = mid.clock; step = here }, chain_over mid ts new rest)

  pub parts_carry : PartsCarry policy asked tells
  parts_carry n m old new before after x = record {
    turns = x.turns;
    chain = chain_over old x.turns new x.chain;
    count = x.count;
    few = x.few;
    each = x.each;
    written = x.written;
  }

  pub parts_join_over : PartsJoinOver policy asked tells
  parts_join_over n m k left mid left' before held after x y = part_on (StepOver policy asked tells) n m k left mid left' before held after x y

  pub parts_end_over : PartsEndOver policy asked tells
  parts_end_over n m left left' last new s held ahead (Ok GoesOn) result x takes left_is never = absurd never
  parts_end_over n m left left' last new s held ahead (Ok (Ended k)) result x takes left_is is =
      subst (λ r. SessionOver policy asked tells left left' s r) (sym is)
      (record { n = n; last = last; held = held; goes_on = x; ahead = ahead; new = new; left_is = left_is; unread = tt; ends = takes.1 })
  parts_end_over n m left left' last new s held ahead (Err fault) result x takes left_is is =
      subst (λ r. SessionOver policy asked tells left left' s r) (sym is)
      (record { n = n; last = last; held = held; goes_on = x; ahead = ahead; new = new; left_is = left_is; unread = takes.1; ends = takes.2 })

  -- ---- one turn, by what came of it

  pub takes_end : (l l' : Option (List ℕ)) (desk : D) (clock : C) (held : Option (List ℕ)) (n : ℕ) (ahead : List ℕ) (failed_reader failed_writer : Bool)
      → Between l l' (FindsNext None)
      → Takes policy asked tells n n (record { left = l; desk = desk; clock = clock }) (record { left = l'; desk = desk; clock = clock })
      (record { before = held; after = held; reader_failed = failed_reader; writer_failed = failed_writer }) ahead (Ok (Ended n))
  takes_end l l' desk clock held n ahead failed_reader failed_writer ends =
      (refl, inl (refl, record { ends = ends; untouched = record { desk_is = refl; clock_is = refl }; written = Keeps-refl held }))

  pub takes_close : (l l' : Option (List ℕ)) (request : Request) (close : Bool) (desk desk' : D) (clock clock' : C) (held held' : Option (List ℕ)) (n : ℕ) (ahead : List ℕ) (failed_reader failed_writer : Bool)
      → Between l l' (FindsNext (Some request))
      → (c : Comes policy asked tells request desk clock desk' clock') × Appends held held' (response c.outcome close) → close ≡ is_last n request → close ≡ true
      → Takes policy asked tells n n (record { left = l; desk = desk; clock = clock }) (record { left = l'; desk = desk'; clock = clock' })
      (record { before = held; after = held'; reader_failed = failed_reader; writer_failed = failed_writer }) ahead (Ok (Ended (n + 1)))
  takes_close l l' request close desk desk' clock clock' held held' n ahead failed_reader failed_writer reads x is closed = (
    refl,
    inr (
      refl,
      inl (record {
        turn = record { request = request; moment = x.0.moment; outcome = x.0.outcome; close = close };
        step = step_of policy asked tells l l' request close desk desk' clock clock' x.0 reads;
        last = sym is ∙ closed;
        close = closed;
        written = x.1;
      }),
    ),
  )

  pub takes_refusal : (l l' : Option (List ℕ)) (fault : Fault) (desk : D) (clock : C) (held held' : Option (List ℕ)) (n : ℕ) (ahead : List ℕ) (failed_reader failed_writer : Bool)
      → Met failed_reader l l' ahead fault → IsInside fault × Appends held held' (refusal fault)
      → Takes policy asked tells n n (record { left = l; desk = desk; clock = clock }) (record { left = l'; desk = desk; clock = clock })
      (record { before = held; after = held'; reader_failed = failed_reader; writer_failed = failed_writer }) ahead (Ok (Ended (n + 1)))
  takes_refusal l l' fault desk clock held held' n ahead failed_reader failed_writer met x = (
    refl,
    inr (
      refl,
      inr (record {
        fault = fault;
        breaks = inside_breaks failed_reader l l' ahead fault met x.0;
        untouched = record { desk_is = refl; clock_is = refl };
        written = x.1;
      }),
    ),
  )

  pub takes_answering : (l l' : Option (List ℕ)) (request : Request) (close : Bool) (desk desk' : D) (clock clock' : C) (held held' : Option (List ℕ)) (n : ℕ) (ahead : List ℕ) (failed_reader failed_writer : Bool) (e : SessionFault)
      → Between l l' (FindsNext (Some request)) → AnswersTo policy asked tells request close desk clock held desk' clock' held' failed_writer (Err e) → close ≡ is_last n request
      → Takes policy asked tells n n (record { left = l; desk = desk; clock = clock }) (record { left = l'; desk = desk'; clock = clock' })
      (record { before = held; after = held'; reader_failed = failed_reader; writer_failed = failed_writer }) ahead (Err e)
  takes_answering l l' request close desk desk' clock clock' held held' n ahead failed_reader failed_writer e reads x is = (
    refl,
    answered_unread policy asked tells l l' ahead request close desk desk' clock clock' held held' failed_writer e x,
    ends_answering policy asked tells l l' request close desk desk' clock clock' held held' n failed_reader failed_writer e reads x is,
  )

  pub takes_refusing : (l l' : Option (List ℕ)) (fault : Fault) (desk : D) (clock : C) (held held' : Option (List ℕ)) (n : ℕ) (ahead : List ℕ) (failed_reader failed_writer : Bool) (e : SessionFault)
      → Met failed_reader l l' ahead fault → RefusesBy fault held held' failed_writer (Err e)
      → Takes policy asked tells n n (record { left = l; desk = desk; clock = clock }) (record { left = l'; desk = desk; clock = clock })
      (record { before = held; after = held'; reader_failed = failed_reader; writer_failed = failed_writer }) ahead (Err e)
  takes_refusing l l' fault desk clock held held' n ahead failed_reader failed_writer e met x = (
    refl,
    refused_unread failed_reader l l' ahead fault held held' failed_writer e met x,
    ends_refusing policy asked tells l l' ahead fault desk clock held held' n failed_reader failed_writer e met x,
  )

  pub takes_on : (l l' : Option (List ℕ)) (request : Request) (close : Bool) (desk desk' : D) (clock clock' : C) (held held' : Option (List ℕ)) (n : ℕ) (ahead : List ℕ) (failed_reader failed_writer : Bool)
      → n < 100 → Between l l' (FindsNext (Some request))
      → (c : Comes policy asked tells request desk clock desk' clock') × Appends held held' (response c.outcome close) → close ≡ is_last n request → close ≡ false
      → Takes policy asked tells n (n + 1) (record { left = l; desk = desk; clock = clock }) (record { left = l'; desk = desk'; clock = clock' })
      (record { before = held; after = held'; reader_failed = failed_reader; writer_failed = failed_writer }) ahead (Ok GoesOn)
  takes_on l l' request close desk desk' clock clock' held held' n ahead failed_reader failed_writer few reads x is open_ =
      let t : Turn = record { request = request; moment = x.0.moment; outcome = x.0.outcome; close = close } in
      let none = neither request.closes (eqb n 99) (sym is ∙ open_) in (
        refl,
        record {
          turns = t ∷ [];
          chain = (record { left = l'; desk = desk'; clock = clock' }, step_of policy asked tells l l' request close desk desk' clock clock' x.0 reads, refl);
          count = refl;
          few = before_last n none.1 few;
          each = (record { request = none.0; response = open_ }, tt);
          written = subst (Appends held held') (sym (append-nil (text_of t))) x.1;
        },
      )
