-- Threads may share what they have in common, for `search`.
use denote.Param.Send.{IsSend, IsSync, sendable}
use denote.Ref.{NamedLft}
use denote.RattleType.{RattleType}
use Rattle.eu_shared.proofs.Crossing.{Shared-sync}
use Rattle.eu_shared.specs.declared.shares.Label.{Ghosts}
use Rattle.eu_bench.specs.contracts.asks.Load as load

pub Load-sync : (a : NamedLft) (K R : RattleType) (g : Ghosts K.Denot) → IsSend K → IsSync R → IsSync (load.the_field a K R g).row
Load-sync a K R g k r = search (Shared-sync, sendable) depth 30 fits 20000
