-- Workers that are added one after the other
use Rattle.std.proofs.Common.{◌≡◌, ℕ, ◌+◌, List, [], ◌∷◌, ◌++◌, Result, Ok, Err, OnOk, refl, ap, ◌∙◌}
use Rattle.std.proofs.lemmas.List.{append_assoc, length_push}
use Rattle.std.specs.List.{AllByRecursion}
use Rattle.eu_server.specs.Staff.{AreSessions, AreTimers, IsReadyFor, ServesSessions}
use Rattle.eu_base.specs.declared.faults.Fault.{Fault}
use Rattle.eu_workers.specs.declared.all.Work.TheVariants.{Sessions, Evictor, Bucket, Threshold}
use Rattle.eu_workers.specs.declared.all.Worker.{Worker}

-- one more of them
all_push : {X : Type 0} (P : X → Type 0) (xs : List X) (x : X) → AllByRecursion P xs → P x → AllByRecursion P (xs ++ x ∷ [])
all_push P [] x all p = (p, tt)
all_push P (y ∷ ys) x all p = (all.0, all_push P ys x all.1 p)

module _ {K S C H P : Type 0} (old : List (Worker K S C H P)) where
  -- one more worker that serves sessions
  pub one_more : (mid new : List (Worker K S C H P)) (count : ℕ) (source : S)
      → (sessions : List (Worker K S C H P)) × AreSessions count sessions × (mid ≡ old ++ sessions)
      → (worker : Worker K S C H P) × IsReadyFor (Sessions source) worker × (new ≡ mid ++ worker ∷ [])
      → (sessions : List (Worker K S C H P)) × AreSessions (count + 1) sessions × (new ≡ old ++ sessions)
  one_more mid new count source before added =
      let (sessions, are, is) = before in
      let (worker, ready, pushed) = added in (
        sessions ++ worker ∷ [],
        (length_push sessions worker ∙ ap (λ n. n + 1) are.0, all_push ServesSessions sessions worker are.1 (source, ready)),
        pushed ∙ ap (λ ws. ws ++ worker ∷ []) is ∙ append_assoc old sessions (worker ∷ []),
      )

  -- the three timers
  pub three : (a b new : List (Worker K S C H P)) (chooser : H)
      → (w : Worker K S C H P) × IsReadyFor (Evictor chooser) w × (a ≡ old ++ w ∷ [])
      → (w : Worker K S C H P) × IsReadyFor Bucket w × (b ≡ a ++ w ∷ [])
      → (r : Result (Unit {0}) Fault)
      → OnOk r ((w : Worker K S C H P) × IsReadyFor Threshold w × (new ≡ b ++ w ∷ []))
      → OnOk r ((timers : List (Worker K S C H P)) × AreTimers chooser timers × (new ≡ old ++ timers))
  three a b new chooser x y (Err f) z = tt
  three a b new chooser x y (Ok u) z =
      let (evictor, evicts, first) = x in
      let (bucket, ends, second) = y in
      let (threshold, updates, third) = z in (
        evictor ∷ bucket ∷ threshold ∷ [],
        (evictor, bucket, threshold, evicts, ends, updates, refl),
        third ∙ ap (λ ws. ws ++ threshold ∷ []) (second ∙ ap (λ ws. ws ++ bucket ∷ []) first ∙ append_assoc old (evictor ∷ []) (bucket ∷ []))
            ∙ append_assoc old (evictor ∷ bucket ∷ []) (threshold ∷ []),
      )
