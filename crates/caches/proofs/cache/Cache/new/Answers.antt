use Rattle.std.proofs.Common.{List, refl}
use Rattle.bin_history.specs.Limits.{most_lean_clients}
use Rattle.bin_history.specs.declared.form.Form.TheVariants.{Lean}
use Rattle.caches.proofs.Opened.{IfOk-part, IsLimited-made}
use Rattle.caches.proofs.cache.Cache.new.Goals as goal
use Rattle.chm.proofs.Limits.{IsLimited-refused}
use Rattle.chm.specs.Opened.{IsNew}
use Rattle.count_ledger.specs.Views.{PassView}

pub returns-in_err-own-clause-limits : goal.returns-in_err-own-clause-limits
returns-in_err-own-clause-limits g c =
    let within = c.in_ok-map.ensures.limits.ok refl in
    IsLimited-refused _ _ _ _ c.from_residual-in_err-own.ensures.1 within.0 within.1

pub returns-clause-new : goal.returns-clause-new
returns-clause-new g c =
    IfOk-part (λ cache. cache.map) c.of.result c.in_ok-map.map (λ s. (all : List (PassView _ _ _))
    × IsNew Lean (record { 0 = 0 }) c.args.most most_lean_clients s all) c.of.ensures.map c.in_ok-map.ensures.new

pub returns-clause-limits : goal.returns-clause-limits
returns-clause-limits g c =
    let within = c.in_ok-map.ensures.limits.ok refl in
    IsLimited-made _ _ _ c.of.result c.of.ensures.faults within.0 within.1
