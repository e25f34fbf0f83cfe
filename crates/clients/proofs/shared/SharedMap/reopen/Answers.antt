use Rattle.std.proofs.Common.{List, refl}
use Rattle.count_ledger.specs.Views.{PassView}
use Rattle.chm.proofs.Limits.{IsLimited-refused}
use Rattle.chm.specs.Reopened.{IsReopened}
use Rattle.clients.proofs.Made.{IfOk-same, IsLimited-made}
use Rattle.clients.proofs.shared.SharedMap.reopen.Goals as goal

pub returns-in_err-clone-clause-limits : goal.returns-in_err-clone-clause-limits
returns-in_err-clone-clause-limits g c =
    let within = c.in_ok-map.ensures.limits.ok refl in
    IsLimited-refused _ _ _ _ c.from_residual-in_err-clone.ensures.1 within.0 within.1

pub returns-clause-new : goal.returns-clause-new
returns-clause-new g c =
    IfOk-same c.of.result c.in_ok-map.map (λ s. (all : List (PassView _ _ _))
    × IsReopened g.K.PartialEq.eq g.K.HashKey.code c.args.closed.now c.args.closed.now.ledger.salt c.args.clients s all)
    c.of.ensures.map (_, rw c.salt.ensures at c.in_ok-map.ensures.new)

pub returns-clause-limits : goal.returns-clause-limits
returns-clause-limits g c =
    let within = c.in_ok-map.ensures.limits.ok refl in
    IsLimited-made _ _ _ c.of.result c.of.ensures.faults within.0 within.1
