-- All workers of a server
use Rattle.std.specs.Prelude.{◌≡◌, ℕ}
use Rattle.eu_clock.specs.Front.{Asks}
use Rattle.eu_model.specs.declared.commands.Command.TheVariants.{Evict, EndMinute, Update}
use Rattle.eu_shared.specs.Passes.{PassAccount}
use Rattle.eu_workers.specs.declared.all.Job.{Job}
use Rattle.eu_workers.specs.declared.all.Work.{Work}
use Rattle.eu_workers.specs.declared.all.Work.TheVariants.{Sessions, Evictor, Bucket, Threshold, Replicator}
use Rattle.eu_workers.specs.declared.all.Worker.{Worker}
use Rattle.eu_workers.specs.declared.all.Worker.TheVariants.{Ready, Numbered, Done}
use Rattle.eu_workers.specs.declared.ended.Ended.{Ended}
use Rattle.eu_workers.specs.Returned.{TakesTurns}
use Rattle.eu_workers.specs.Timers.{AsksBy, AsksOnly}

-- what a worker did with its pass, by its work, and what is left of that: one of its kind, and a chooser from which the victims were drawn
abbrev pub IsWorked : {S H P : Type 0} → Asks H → Work S H P → Work S H P → ℕ → PassAccount → PassAccount → Ended → Type 0
IsWorked {S} {H} {P} chooser (Sessions source) left limit p q e = ((s : S) × (left ≡ Sessions s)) × TakesTurns limit p q e
IsWorked {S} {H} {P} chooser (Evictor x) left limit p q e = (x' : H) × (left ≡ Evictor x') × AsksBy chooser x Evict limit p q e x'
IsWorked {S} {H} {P} chooser Bucket left limit p q e = (left ≡ Bucket) × AsksOnly EndMinute limit p q e
IsWorked {S} {H} {P} chooser Threshold left limit p q e = (left ≡ Threshold) × AsksOnly Update limit p q e
IsWorked {S} {H} {P} chooser (Replicator number peer) left limit p q e = ((x : P) × (left ≡ Replicator number x)) × TakesTurns limit p q e

module _ {K S C H P : Type 0} where
  -- a worker is numbered, if it is ready
  abbrev pub IsNumbered : Worker K S C H P → Worker K S C H P → Type 0
  IsNumbered (Ready job) w = (n : ℕ) × (w ≡ Numbered n job)
  IsNumbered v w = w ≡ v

module _ {K S C H P : Type 0} (chooser : Asks H) where
  -- a worker did its job, and gives back with what it worked
  abbrev pub DidJob : Job K S C H P → Worker K S C H P → Type 0
  DidJob job w = (q : PassAccount) × (e : Ended) × (left : Work S H P) × (w ≡ Done q e left) × IsWorked chooser job.work left job.limit job.pass q e

  -- a worker did its job, if it has one and its number
  abbrev pub HasRun : Worker K S C H P → Worker K S C H P → Type 0
  HasRun (Numbered n job) w = DidJob job w
  HasRun v w = w ≡ v

  -- a worker did its job, if it has one
  abbrev pub IsEnded : Worker K S C H P → Worker K S C H P → Type 0
  IsEnded (Ready job) w = DidJob job w
  IsEnded (Numbered n job) w = DidJob job w
  IsEnded v w = w ≡ v
