use Rattle.std.proofs.Common.{ℕ, refl, subst, sym, ◌∙◌, arith}
use Rattle.bin_history.specs.declared.form.Form.TheVariants.{Lean}
use Rattle.chm.proofs.Limits.{IsLimited-ok, IsLimited-same}
use Rattle.chm.specs.Opened.{IsNew}
use Rattle.clients.proofs.Made.{team-limited}
use Rattle.clients.proofs.Passes.{in-order-new, length-new_passes}
use Rattle.clients.proofs.team.Team.with_salt.Goals as goal

pub invariant_of-result : goal.invariant_of-result
invariant_of-result g c =
    let new = c.in-Ok.ensures.new in
    record {
      own = new.own;
      all = length-new_passes _ _ _ new.passes ∙ sym new.clients;
      in_order = in-order-new _ _ _ new.passes;
    }

pub returns-in-Ok-clause-new : goal.returns-in-Ok-clause-new
returns-in-Ok-clause-new g c =
    let (room, clients) = c.in-Ok.ensures.limits.ok refl in
    let (same, few) = c.of_team.ensures.some clients.0 in
    subst (λ (n : ℕ). IsNew Lean c.args.salt c.args.capacity n c.in-Ok.map c.in-Ok.passes.items) same c.in-Ok.ensures.new

pub returns-in-Ok-clause-limits : goal.returns-in-Ok-clause-limits
returns-in-Ok-clause-limits g c =
    let (room, clients) = c.in-Ok.ensures.limits.ok refl in
    let (same, few) = c.of_team.ensures.some clients.0 in
    let some = clients.0 in
    IsLimited-ok _ _ _ _ room (omega (arith, same, some), few)

pub returns-in-Err-clause-limits : goal.returns-in-Err-clause-limits
returns-in-Err-clause-limits g c =
    IsLimited-same _ _ _ c.in-Err.fault (team-limited _ _ _ c.of_team.result c.in-Err.fault (omega arith)
    c.of_team.ensures.some c.of_team.ensures.few c.in-Err.ensures.limits)
