-- Two answerers that are alike answer a script alike
use Rattle.std.proofs.Common.{ℕ, ◌-◌, Bool, List, [], ◌∷◌, Option, Result, Ok, Err, inl, inr, refl, ap}
use Rattle.std.proofs.Common.{take, slice_index_or}
use Rattle.eu_lines.specs.declared.limits.Limits.{Limits}
use Rattle.eu_lines.specs.declared.faults.ScriptFault.{ScriptFault}
use Rattle.eu_lines.specs.declared.faults.ScriptFault.TheVariants.{BadLine, Read, Write, OutOfMemory}
use Rattle.eu_lines.specs.Script.{Place, Streams, Prints, Printed, IsBad, StopsIn, Outcome, place}

-- One answerer has the states S, the other the states T, and A pairs them: what the first does from a state, the second does
-- from each state that it is paired with.
module _ {S T X : Type 0} (limits : Limits)
    (answers : Place S X → List ℕ → List ℕ → Place S X → Type 0) (refuses : Place S X → List ℕ → Type 0)
    (answers' : Place T X → List ℕ → List ℕ → Place T X → Type 0) (refuses' : Place T X → List ℕ → Type 0)
    (A : S → T → Type 0)
    (both : (before : Place S X) (t : T) (line out : List ℕ) (after : Place S X) → A before.state t → answers before line out after
    → (t' : T) × answers' (place t before.context) line out (place t' after.context) × A after.state t')
    (bad : (here : Place S X) (t : T) (line : List ℕ) → A here.state t → refuses here line → refuses' (place t here.context) line) where
  prints : (before : Place S X) (t : T) (line out : List ℕ) (after : Place S X) → A before.state t → Prints limits answers before line out after
      → (t' : T) × Prints limits answers' (place t before.context) line out (place t' after.context) × A after.state t'
  prints before t [] out after a p = (t, (p.0, ap (λ (here : Place S X). place t here.context) p.1), rw (p.1) a)
  prints before t (b ∷ bs) out after a p =
      let r = both before t (b ∷ bs) out after a p.1 in
      (r.0, (p.0, r.1), r.2)

  -- what the first prints for some lines, the second does too, and they are paired after
  pub printed : (before : Place S X) (t : T) (lines : List (List ℕ)) (out : List ℕ) (after : Place S X) → A before.state t → Printed limits answers before lines out after
      → (t' : T) × Printed limits answers' (place t before.context) lines out (place t' after.context) × A after.state t'
  printed before t [] out after a p = (t, (p.0, ap (λ (here : Place S X). place t here.context) p.1), rw (p.1) a)
  printed before t (line ∷ lines) out after a p =
      let r = prints before t line p.0 p.2 a p.3 in
      let q = printed p.2 r.0 lines p.1 after r.2 p.4 in
      (q.0, (p.0, p.1, place r.0 p.2.context, r.1, q.1, p.5), q.2)

  is_bad : (here : Place S X) (t : T) (line : List ℕ) → A here.state t → IsBad limits refuses here line → IsBad limits refuses' (place t here.context) line
  is_bad here t [] a p = p
  is_bad here t (b ∷ bs) a (inl long) = inl long
  is_bad here t (b ∷ bs) a (inr refused) = inr (bad here t (b ∷ bs) a refused)

  stops : (before : Place S X) (t : T) (lines : List (List ℕ)) (context : X) (failed : Bool) (fault : ScriptFault) (out : List ℕ) → A before.state t
      → StopsIn limits answers refuses before lines context failed fault out → StopsIn limits answers' refuses' (place t before.context) lines context failed fault out
  stops before t lines context failed (BadLine n) out a p =
      let r = printed before t (take (n - 1) lines) out (place p.2 context) a p.3 in
      (p.0, p.1, r.0, r.1, is_bad (place p.2 context) r.0 (slice_index_or lines (n - 1) []) r.2 p.4)
  stops before t lines context failed OutOfMemory out a p =
      let r = printed before t (take p.0 lines) out p.2 a p.3 in
      (p.0, p.1, place r.0 p.2.context, r.1)
  stops before t lines context failed Write out a p =
      let r = printed before t (take p.1 lines) p.4 p.3 a p.5 in
      (p.0, p.1, p.2, place r.0 p.3.context, p.4, r.1, p.6, p.7)
  stops before t lines context failed Read out a p = p

  -- what the first does with a script, the second does too
  pub outcome : (before after : Place S X) (t : T) (streams : Streams) (result : Result (Unit {0}) ScriptFault) (out : List ℕ)
      → A before.state t → Outcome limits answers refuses before after streams result out
      → (t' : T) × Outcome limits answers' refuses' (place t before.context) (place t' after.context) streams result out
  outcome before after t streams (Ok u) out a p =
      let r = printed before t _ out after a p.2 in
      (r.0, (p.0, p.1, r.1))
  outcome before after t streams (Err Read) out a p =
      let r = printed before t _ out after a p.5 in
      (r.0, (p.0, p.1, p.2, p.3, p.4, r.1))
  outcome before after t streams (Err (BadLine n)) out a p = (t, (p.0, p.1, stops before t _ after.context streams.writer_failed (BadLine n) out a p.2))
  outcome before after t streams (Err OutOfMemory) out a p = (t, (p.0, p.1, stops before t _ after.context streams.writer_failed OutOfMemory out a p.2))
  outcome before after t streams (Err Write) out a p = (t, (p.0, p.1, stops before t _ after.context streams.writer_failed Write out a p.2))
