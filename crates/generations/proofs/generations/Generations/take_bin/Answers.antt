use Rattle.std.proofs.Common.{subst, sym}
use Rattle.bin_history.specs.Calls.{after}
use Rattle.bin_history.specs.Lawful.{BinView}
use Rattle.count_ledger.specs.Views.{RoleView}
use Rattle.bin_layout.specs.BinsWithRoles.{IsBinWithRole}
use Rattle.bin_layout.proofs.Places.{IsBinWithRole-at}
use Rattle.generations.proofs.generations.Generations.take_bin.Goals as goal

pub returns-clause-with_role : goal.returns-clause-with_role
returns-clause-with_role g c =
    let same = g.K.PartialEq.eq in
    let code = g.K.HashKey.code in
    let after_is = after g.V.PartialEq.eq g.F.Remap.remapped g.F.Remap.merged in
    let held = c.in_ok-try_hold_at.field-0 in
    let with_role = IsBinWithRole-at same after_is code c.args.self.now c.args.place.now held.bin held.role
    c.in_ok-try_hold_at.ensures.at c.requires
    c.in_ok-try_hold_at.ensures.lawful in
    subst (λ (b : BinView _ _ _). IsBinWithRole same code after_is c.args.self.now b c.take.result.1)
    (sym c.take.ensures.bin)
    (subst (λ (r : RoleView _ _ _). IsBinWithRole same code after_is c.args.self.now held.bin r)
    (sym c.take.ensures.role) with_role)
