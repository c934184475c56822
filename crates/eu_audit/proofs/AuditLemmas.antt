-- A verdict on the entries, from what was read and replayed
use Rattle.std.proofs.Common.{◌≡◌, ◌↔◌, Bool, true, List, sym, subst, true≢false}
use Rattle.std.specs.Prelude.{Option, Some, None, is_some, IsTrue, IfSome}
use Rattle.eu_model.specs.declared.commands.Entry.{Entry}
use Rattle.eu_model.specs.declared.states.State.{State}
use Rattle.eu_model.specs.Server.{PlainServer}
use Rattle.eu_model.specs.State.{server_of_state}
use Rattle.eu_audit.specs.PlainForm.{IsRun, has_plain_parts, is_plain_form}
use Rattle.eu_audit.specs.PlainRuns.{PlainRun}
use Rattle.eu_audit.specs.Verdict.{Judged, IsListed}
use Rattle.eu_audit.proofs.OnceLemmas.{run_once}
use Rattle.eu_audit.proofs.PlainLemmas.{parts, whole, listed_is, is_listed}
use Rattle.eu_audit.proofs.RunLemmas.{runs_are_plain}

-- what goes with something found
pub found : {X : Type 0} (A : X → Type 0) (P : Type 0) (o : Option X) → is_some o ≡ true → IfSome o (λ x. A x × P) → P
found A P None not p = absurd (true≢false (sym not))
found A P (Some x) not p = p.1

module _ (base : State) (entries : List Entry) (end : State) (server : PlainServer) (reads : server ≡ server_of_state base) where
  -- replayed to the last: it is a run exactly where the end lists that
  pub lists_last : (last : PlainServer) → has_plain_parts end ≡ true → is_plain_form base ≡ true → PlainRun server entries last → (b : Bool)
      → IsTrue b ↔ (IsListed last.registry end × (last.queues ≡ end.queues)) → IsTrue b ↔ IsRun base entries end
  lists_last last plain_end plain_base run b is = (there, back)
    where
      from_base : PlainRun (server_of_state base) entries last
      from_base = subst (λ s. PlainRun s entries last) reads run

      there : IsTrue b → IsRun base entries end
      there listing =
          let listed = is.0 listing in
          let same = listed_is last end listed.0 listed.1 in
          record {
            begins = plain_base;
            ends = whole end plain_end same.0;
            runs = (runs_are_plain (server_of_state base) entries (server_of_state end)).1 (subst (λ s. PlainRun (server_of_state base) entries s) same.1 from_base);
          }

      back : IsRun base entries end → IsTrue b
      back r =
          let other = (runs_are_plain (server_of_state base) entries (server_of_state end)).0 r.runs in
          let same = run_once entries (server_of_state base) last (server_of_state end) from_base other in
          is.1 (is_listed last end (parts end r.ends).1 same)

  -- led nowhere: it is none
  pub leads_nowhere : Judged (PlainRun server entries) None → IsRun base entries end → ⊥
  leads_nowhere none r =
      none (server_of_state end) (subst (λ s. PlainRun s entries (server_of_state end)) (sym reads) ((runs_are_plain (server_of_state base) entries (server_of_state end)).0 r.runs))
