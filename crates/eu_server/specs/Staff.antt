-- The workers of a server
use Rattle.std.specs.Prelude.{◌≡◌, ◌-◌, ◌^◌, ℕ, List, [], ◌∷◌, ◌++◌, length}
use Rattle.std.specs.List.{AllByRecursion}
use Rattle.eu_workers.specs.declared.all.Job.{Job}
use Rattle.eu_workers.specs.declared.all.Work.{Work}
use Rattle.eu_workers.specs.declared.all.Work.TheVariants.{Sessions, Evictor, Bucket, Threshold}
use Rattle.eu_workers.specs.declared.all.Worker.{Worker}
use Rattle.eu_workers.specs.declared.all.Worker.TheVariants.{Ready}

module _ {K S C H P : Type 0} where
  -- it is ready for this work, and has as many turns as can be counted
  abbrev pub IsReadyFor : Work S H P → Worker K S C H P → Type 0
  IsReadyFor work worker = (job : Job K S C H P) × (worker ≡ Ready job) × (job.work ≡ work) × (job.limit ≡ 2 ^ 64 - 1)

  -- it is ready to serve sessions, without such a limit
  abbrev pub ServesSessions : Worker K S C H P → Type 0
  ServesSessions worker = (source : S) × IsReadyFor (Sessions source) worker

  -- so many workers that serve sessions
  abbrev pub AreSessions : ℕ → List (Worker K S C H P) → Type 0
  AreSessions count sessions = (length sessions ≡ count) × AllByRecursion ServesSessions sessions

  -- an evictor that draws by this chooser, and then the workers of the bucket and of the threshold
  abbrev pub AreTimers : H → List (Worker K S C H P) → Type 0
  AreTimers chooser timers =
      (evictor : Worker K S C H P) × (bucket : Worker K S C H P) × (threshold : Worker K S C H P)
      × IsReadyFor (Evictor chooser) evictor × IsReadyFor Bucket bucket × IsReadyFor Threshold threshold
      × (timers ≡ evictor ∷ bucket ∷ threshold ∷ [])

  -- the workers of a server: so many that serve sessions, and behind them the timers, whose evictor draws by this chooser
  abbrev pub IsStaff : ℕ → H → List (Worker K S C H P) → Type 0
  IsStaff count chooser staff =
      (sessions : List (Worker K S C H P)) × (timers : List (Worker K S C H P))
      × AreSessions count sessions × AreTimers chooser timers × (staff ≡ sessions ++ timers)
