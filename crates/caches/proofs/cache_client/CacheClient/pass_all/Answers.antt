use Rattle.caches.proofs.Full.{fails_by}
use Rattle.chm.specs.declared.fault.Fault.TheVariants.{PassFull}
use Rattle.caches.proofs.cache_client.CacheClient.pass_all.Goals as goal

pub returns-in_err-pass-clause-full : goal.returns-in_err-pass-clause-full
returns-in_err-pass-clause-full g c = λ is.
    c.in_err-pass.ensures.full (fails_by c.from_residual.result _ PassFull c.from_residual.ensures.1 is)
