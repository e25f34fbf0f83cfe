use Rattle.std.proofs.Common.{◌<◌, ◌≤◌, ◌^◌, ◌/◌, ◌+◌, ℕ, inl, inr, arith}
use Rattle.std.proofs.Math.Nat.{pow-le-pow_right}
use Rattle.clients.proofs.Rows.{below-or-not}
use Rattle.clients.proofs.pass_slot.row_of.Goals as goal

pub returns-clause-row : goal.returns-clause-row
returns-clause-row c = elim (below-or-not c.ilog2.result 14) [
  | inl low ↦ low
  | inr high ↦
      let much : 2 ^ 14 ≤ 2 ^ c.ilog2.result = pow-le-pow_right (omega arith) high in
      let most = c.ilog2.ensures.power_le in
      let few = c.requires in
      absurd (omega (arith, much, most, few))
]
