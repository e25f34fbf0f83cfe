use denote.Param.Send.{sendable}
use Rattle.chm.proofs.Shared.{map_sync}
use Rattle.live_bulk.proofs.Crossing.{job_sync}
use Rattle.live_bulk.proofs.working.work_all.Goals as goal

pub for_each_mut-requires-sync-F : goal.for_each_mut-requires-sync-F
for_each_mut-requires-sync-F g c κs within =
    let sk = c.type_bounds.send-K in let sv = c.type_bounds.send-V in let sf = c.type_bounds.send-F in
    let sa = c.type_bounds.send-A in
    let yk = c.type_bounds.sync-K in let yv = c.type_bounds.sync-V in let yf = c.type_bounds.sync-F in
    let ya = c.type_bounds.sync-A in
    let yr = c.type_bounds.sync-R in let ys = c.type_bounds.sync-S in let yg = c.type_bounds.sync-G in
    let frees = c.type_bounds.frees-A-Allocator in
    let ym = map_sync _ _ _ _ g.K.HashKey g.K.Eq g.K.PartialEq g.K.Exact g.K.Clone g.V.Value g.V.Exact g.V.Clone g.V.Eq g.V.PartialEq
    g.F.Remap g.F.Exact g.F.Clone g.A.Allocator sk sv sf sa yk yv yf ya frees in
    search (sendable, job_sync) depth 40 fits 20000
