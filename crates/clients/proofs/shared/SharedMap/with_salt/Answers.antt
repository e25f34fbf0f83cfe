use Rattle.std.proofs.Common.{List, refl}
use Rattle.bin_history.specs.declared.form.Form.TheVariants.{Lean}
use Rattle.count_ledger.specs.Views.{PassView}
use Rattle.chm.proofs.Limits.{IsLimited-refused}
use Rattle.chm.specs.Opened.{IsNew}
use Rattle.clients.proofs.Made.{IfOk-same, IsLimited-made}
use Rattle.clients.proofs.shared.SharedMap.with_salt.Goals as goal

pub returns-in_err-own-clause-limits : goal.returns-in_err-own-clause-limits
returns-in_err-own-clause-limits g c =
    let within = c.in_ok-map.ensures.limits.ok refl in
    IsLimited-refused _ _ _ _ c.from_residual-in_err-own.ensures.1 within.0 within.1

pub returns-clause-new : goal.returns-clause-new
returns-clause-new g c =
    IfOk-same c.of.result c.in_ok-map.map (λ s. (all : List (PassView _ _ _))
    × IsNew Lean c.args.salt c.args.capacity c.args.clients s all) c.of.ensures.map (_, c.in_ok-map.ensures.new)

pub returns-clause-limits : goal.returns-clause-limits
returns-clause-limits g c =
    let within = c.in_ok-map.ensures.limits.ok refl in
    IsLimited-made _ _ _ c.of.result c.of.ensures.faults within.0 within.1
