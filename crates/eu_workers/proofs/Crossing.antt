-- Which workers may go to another thread, and what they share there, for `search`.
use denote.Param.Send.{IsSend, IsSync, sendable}
use denote.Ref.{NamedLft}
use denote.RattleType.{RattleType}
use Rattle.std.proofs.Crossing as heap
use Rattle.eu_shared.proofs.Crossing.{Pass-send, Shared-sync}
use Rattle.eu_shared.specs.declared.shares.Label.{Ghosts}
use Rattle.eu_http.specs.contracts.policy.Policy as policy
use Rattle.eu_routes.specs.contracts.table.Routes as routes
use Rattle.matchit.proofs.tree.Node.TheLaws.TheKnot as tree
use Rattle.slab.proofs.Slab.TheSendSync as slab
use Rattle.eu_workers.specs.contracts.all.Job as job
use Rattle.eu_workers.specs.contracts.all.Worker as worker
use Rattle.eu_workers.specs.contracts.site.Site as site

pub Routes-sync : IsSync routes.the_field.row
Routes-sync = search (tree.sync-Node, slab.the_sync, sendable, heap.crosses) depth 40 fits 20000

Policy-sync : IsSync policy.the_field.row
Policy-sync = search (sendable, heap.crosses) depth 40 fits 20000

module _ (K S C H P : RattleType) (g : Ghosts K.Denot) where
  Job-send : IsSend K → IsSend S → IsSend C → IsSend H → IsSend P → IsSend (job.the_field K S C H P g).row
  Job-send k s c h p = search (Pass-send, sendable) depth 40 fits 20000

  pub Worker-send : IsSend K → IsSend S → IsSend C → IsSend H → IsSend P → IsSend (worker.the_row K S C H P g)
  Worker-send k s c h p = search (Job-send, Pass-send, sendable) depth 40 fits 20000

pub Site-sync : (a : NamedLft) (K R G : RattleType) (g : Ghosts K.Denot) → IsSend K → IsSync R → IsSync G → IsSync (site.the_field a K R G g).row
Site-sync a K R G g k r y = search (Shared-sync, Routes-sync, Policy-sync, sendable) depth 30 fits 20000
