-- Threads may share what the clients have in common.
use denote.RattleType.{RattleType}
use denote.Ref.{NamedLft}
use denote.Param.Send.{IsSync, sendable}
use Rattle.live_bulk.specs.contracts.working.Job as Job

pub job_sync : (a : NamedLft) (S G : RattleType) → IsSync S → IsSync G → IsSync (Job.the_row a S G)
job_sync a S G ys yg = search sendable depth 30
