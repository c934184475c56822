-- What a server wrote to its journal, by the fault by which it ended
use Rattle.std.proofs.Common.{◌≡◌, ◌⊎◌, ℕ, Bool, true, List, length, take, Option, Result, Err, refl, sym, subst, inl, inr}
use Rattle.std.proofs.KnownBytes.{Appends-kept}
use Rattle.std.proofs.Math.Seq.{take-length}
use Rattle.std.specs.Io.KnownBytes.{Appends, Keeps}
use Rattle.eu_base.specs.declared.faults.Fault.{Fault}
use Rattle.eu_base.specs.declared.faults.Fault.TheVariants.{OutOfMemory, Write}
use Rattle.eu_book.specs.Account.{IsLawful}
use Rattle.eu_book.specs.Peers.{state_of}
use Rattle.eu_server.specs.Journal.{IsUntold, closed_text}
use Rattle.eu_settle.specs.declared.closed.Closed.{Closed}
use Rattle.eu_shared.specs.Closing.{account_of}

module _ (old mid new : Option (List ℕ)) (text : List ℕ) (whole : Appends old mid text) (kept : Keeps mid new) where
  -- a text that was written whole is written in front
  pub front : (k : ℕ) × Appends old new (take k text)
  front = (length text, subst (Appends old new) (sym (take-length text)) (Appends-kept old mid new text whole kept))

module _ (kept : Type 0) (failed : Bool) (old new : Option (List ℕ)) (c : Closed) (lawful : IsLawful (account_of c))
    (base : c.base ≡ state_of (account_of c).base) (end : c.end ≡ state_of (account_of c).state) where
  -- the journal wasn't written whole
  pub unwritten : (r : Result (Unit {0}) Fault) (f : Fault) → r ≡ Err f → (f ≡ OutOfMemory) ⊎ (f ≡ Write) → kept
      → (r ≡ Err OutOfMemory → Keeps old new) → (r ≡ Err Write → (k : ℕ) × Appends old new (take k (closed_text c))) → (r ≡ Err Write → failed ≡ true)
      → IsUntold kept failed old new f
  unwritten r f is (inl e) same memory front fails = rw e (inl (inl (inl refl), same, memory (rw e at is)))
  unwritten r f is (inr e) same memory front fails =
      let written = front (rw e at is) in
      rw e (inr (refl, _, (c, lawful, base, end, refl), inl (same, fails (rw e at is), written.0, written.1)))

  -- it was, but the line after it wasn't
  pub untold : (f : Fault) → f ≡ Write → Appends old new (closed_text c) → IsUntold kept failed old new f
  untold f e whole = inr (e, _, (c, lawful, base, end, refl), inr whole)
