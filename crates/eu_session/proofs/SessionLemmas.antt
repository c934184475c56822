-- What ends a session, by what its parts did.
use Rattle.std.proofs.Common.{◌≡◌, ◌⊎◌, ⊎_elim, inl, inr, ℕ, ◌+◌, ◌<◌, ◌≤◌, Bool, true, false, ◌||◌, eqb, List, Option, Some, None, Result, Err, refl, sym, arith}
use Rattle.std.proofs.lemmas.Bool.{false≢true, cases_lt}
use Rattle.std.specs.Io.KnownBytes.{Keeps}
use Rattle.eu_base.specs.declared.faults.Fault.{Fault}
use Rattle.eu_base.specs.declared.faults.Fault.TheVariants as faults
use Rattle.eu_framing.specs.declared.request.Request.{Request}
use Rattle.eu_framing.specs.Message.{IsCut, FindsNext, Interrupts, Between}
use Rattle.eu_http.specs.declared.policy.Policy.{Policy}
use Rattle.eu_model.specs.declared.asks.Answer.{Answer}
use Rattle.eu_model.specs.declared.asks.Ask.{Ask}
use Rattle.eu_session.specs.declared.faults.SessionFault.{SessionFault}
use Rattle.eu_session.specs.declared.faults.SessionFault.TheVariants.{Read, Write, OutOfMemory}
use Rattle.eu_session.specs.Session.{is_last, Breaks, Step, DidNothing, FailsClean, Ends}
use Rattle.eu_session.specs.Steps.{IsInside, Comes, Idles, AnswersTo, RefusesBy}
use Rattle.eu_session.proofs.FaultLemmas.{fault_differs, by_number}

pub neither : (a b : Bool) → (a || b) ≡ false → (a ≡ false) × (b ≡ false)
neither true b e = absurd (false≢true (sym e))
neither false b e = (refl, e)

pub before_last : (n : ℕ) → eqb n 99 ≡ false → n < 100 → n + 1 < 100
before_last n e few = ⊎_elim (λ (h : n < 99). omega arith) (λ (h : 99 ≤ n). let is : n ≡ 99 = omega arith in absurd (false≢true (sym (rw is at e)))) (cases_lt n 99)

-- the fault that was met in place of a request
abbrev pub Met : Bool → Option (List ℕ) → Option (List ℕ) → List ℕ → Fault → Type 0
Met failed left left' ahead fault = Interrupts failed left left' ahead fault ⊎ Breaks left fault

pub inside_breaks : (failed : Bool) (left left' : Option (List ℕ)) (ahead : List ℕ) (fault : Fault) → Met failed left left' ahead fault → IsInside fault → Breaks left fault
inside_breaks failed left left' ahead fault (inl (inl memory)) inside = absurd (inside.0 memory)
inside_breaks failed left left' ahead fault (inl (inr read)) inside = absurd (inside.1 read.0)
inside_breaks failed left left' ahead fault (inr breaks) inside = breaks

no_bytes : (left : Option (List ℕ)) (fault : Fault) → Breaks left fault → ¬ (fault ≡ faults.Read)
no_bytes None fault (bytes, x) = fault_differs bytes fault x
no_bytes (Some bytes) fault x = fault_differs bytes fault x

read_failed : (failed : Bool) (left left' : Option (List ℕ)) (ahead : List ℕ) (fault : Fault) → Met failed left left' ahead fault → fault ≡ faults.Read → failed ≡ true
read_failed failed left left' ahead fault (inl (inl memory)) e = absurd (by_number fault faults.OutOfMemory memory refl e)
read_failed failed left left' ahead fault (inl (inr read)) e = read.1
read_failed failed left left' ahead fault (inr breaks) e = absurd (no_bytes left fault breaks e)

read_cut : (failed : Bool) (left left' : Option (List ℕ)) (ahead : List ℕ) (fault : Fault) → Met failed left left' ahead fault → fault ≡ faults.Read → Keeps left left' × IsCut ahead
read_cut failed left left' ahead fault (inl (inl memory)) e = absurd (by_number fault faults.OutOfMemory memory refl e)
read_cut failed left left' ahead fault (inl (inr read)) e = (read.2, read.3)
read_cut failed left left' ahead fault (inr breaks) e = absurd (no_bytes left fault breaks e)

pub refused_unread : (failed : Bool) (left left' : Option (List ℕ)) (ahead : List ℕ) (fault : Fault) (held held' : Option (List ℕ)) (failed_writer : Bool) (e : SessionFault)
    → Met failed left left' ahead fault → RefusesBy fault held held' failed_writer (Err e) → FailsClean left left' ahead (Err e)
refused_unread failed left left' ahead fault held held' failed_writer Read met x = read_cut failed left left' ahead fault met x.0
refused_unread failed left left' ahead fault held held' failed_writer Write met x = tt
refused_unread failed left left' ahead fault held held' failed_writer OutOfMemory met x = tt

module _ {D C : Type 0} (policy : Policy) (asked : D → Ask → ℕ → Result Answer Fault → D → Type 0) (tells : C → ℕ → C → Type 0) where
  pub step_of : (l l' : Option (List ℕ)) (request : Request) (close : Bool) (desk desk' : D) (clock clock' : C) (c : Comes policy asked tells request desk clock desk' clock') → Between l l' (FindsNext (Some request))
      → Step policy asked tells (record { left = l; desk = desk; clock = clock }) (record { request = request; moment = c.moment; outcome = c.outcome; close = close }) (record { left = l'; desk = desk'; clock = clock' })
  step_of l l' request close desk desk' clock clock' c reads = record { reads = reads; told = c.told; comes = c.comes }

  pub answered_unread : (l l' : Option (List ℕ)) (ahead : List ℕ) (request : Request) (close : Bool) (desk desk' : D) (clock clock' : C) (held held' : Option (List ℕ)) (failed_writer : Bool) (e : SessionFault)
      → AnswersTo policy asked tells request close desk clock held desk' clock' held' failed_writer (Err e) → FailsClean l l' ahead (Err e)
  answered_unread l l' ahead request close desk desk' clock clock' held held' failed_writer Read x = absurd x
  answered_unread l l' ahead request close desk desk' clock clock' held held' failed_writer Write x = tt
  answered_unread l l' ahead request close desk desk' clock clock' held held' failed_writer OutOfMemory x = tt

  -- nothing was done
  idle : (l l' : Option (List ℕ)) (request : Request) (close : Bool) (desk desk' : D) (clock clock' : C) → Between l l' (FindsNext (Some request)) → Idles policy asked tells request desk clock desk' clock'
      → DidNothing policy asked tells (record { left = l; desk = desk; clock = clock }) (record { left = l'; desk = desk'; clock = clock' })
  idle l l' request close desk desk' clock clock' reads (inl x) = inr (inl (record { request = request; moment = x.0; reads = reads; told = x.1; desk_is = x.2 }))
  idle l l' request close desk desk' clock clock' reads (inr x) =
      inr (inr (record { request = request; moment = x.0.moment; outcome = x.0.outcome; close = close }, step_of l l' request close desk desk' clock clock' x.0 reads, x.1))

  pub ends_answering : (l l' : Option (List ℕ)) (request : Request) (close : Bool) (desk desk' : D) (clock clock' : C) (held held' : Option (List ℕ)) (n : ℕ) (failed_reader failed_writer : Bool) (e : SessionFault)
      → Between l l' (FindsNext (Some request)) → AnswersTo policy asked tells request close desk clock held desk' clock' held' failed_writer (Err e) → close ≡ is_last n request
      → Ends policy asked tells n (record { left = l; desk = desk; clock = clock }) (record { left = l'; desk = desk'; clock = clock' }) (record { before = held; after = held'; reader_failed = failed_reader; writer_failed = failed_writer }) (Err e)
  ends_answering l l' request close desk desk' clock clock' held held' n failed_reader failed_writer Read reads x is = absurd x
  ends_answering l l' request close desk desk' clock clock' held held' n failed_reader failed_writer Write reads (fails, inl x) is = (
    fails,
    inl (record {
      turn = record { request = request; moment = x.0.moment; outcome = x.0.outcome; close = close };
      step = step_of l l' request close desk desk' clock clock' x.0 reads;
      close = is;
      len = x.1;
      written = x.2;
    }),
  )
  ends_answering l l' request close desk desk' clock clock' held held' n failed_reader failed_writer Write reads (fails, inr x) is =
      (fails, inr (inr (record { nothing = idle l l' request close desk desk' clock clock' reads x.0; len = x.1.0; written = x.1.1 })))
  ends_answering l l' request close desk desk' clock clock' held held' n failed_reader failed_writer OutOfMemory reads (inl x) is =
      inl (idle l l' request close desk desk' clock clock' reads x.0, x.1)
  ends_answering l l' request close desk desk' clock clock' held held' n failed_reader failed_writer OutOfMemory reads (inr x) is =
      inr (x.0, (record { request = request; moment = x.1.0.moment; outcome = x.1.0.outcome; close = close }, step_of l l' request close desk desk' clock clock' x.1.0 reads, x.1.1))

  pub ends_refusing : (l l' : Option (List ℕ)) (ahead : List ℕ) (fault : Fault) (desk : D) (clock : C) (held held' : Option (List ℕ)) (n : ℕ) (failed_reader failed_writer : Bool) (e : SessionFault)
      → Met failed_reader l l' ahead fault → RefusesBy fault held held' failed_writer (Err e)
      → Ends policy asked tells n (record { left = l; desk = desk; clock = clock }) (record { left = l'; desk = desk; clock = clock }) (record { before = held; after = held'; reader_failed = failed_reader; writer_failed = failed_writer }) (Err e)
  ends_refusing l l' ahead fault desk clock held held' n failed_reader failed_writer Read met x = (read_failed failed_reader l l' ahead fault met x.0, record { desk_is = refl; clock_is = refl }, x.1)
  ends_refusing l l' ahead fault desk clock held held' n failed_reader failed_writer Write met (fails, inl x) = (
    fails,
    inr (inl (record {
      fault = fault;
      breaks = inside_breaks failed_reader l l' ahead fault met x.0;
      untouched = record { desk_is = refl; clock_is = refl };
      len = x.1.0;
      written = x.1.1;
    })),
  )
  ends_refusing l l' ahead fault desk clock held held' n failed_reader failed_writer Write met (fails, inr x) =
      (fails, inr (inr (record { nothing = inl (record { desk_is = refl; clock_is = refl }); len = x.0; written = x.1 })))
  ends_refusing l l' ahead fault desk clock held held' n failed_reader failed_writer OutOfMemory met x = inl (inl (record { desk_is = refl; clock_is = refl }), x)
