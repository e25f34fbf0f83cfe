use Rattle.std.proofs.Common.{◌≡◌, ◌≤◌, ◌<◌, ◌^◌, ℕ, arith}
use Rattle.std.proofs.lemmas.Nat.{pow_pos}
use Rattle.chm.proofs.Stepping.{behind}
use Rattle.chm.proofs.walks.numbered.size_at.Goals as goal

pub ilog2-requires : goal.ilog2-requires
ilog2-requires c =
    let (e, few, is) = c.requires.size in
    let some = pow_pos e in
    omega (arith, is, some, c.if-hash-n.false)

pub returns-clause-size : goal.returns-clause-size
returns-clause-size c =
    (behind c.args.n c.args.hash c.ilog2.result c.requires.size (omega (arith, c.if-hash-n.false)) c.requires.few
    c.ilog2.ensures.power_le c.ilog2.ensures.next_power_gt).0

pub returns-clause-within : goal.returns-clause-within
returns-clause-within c =
    (behind c.args.n c.args.hash c.ilog2.result c.requires.size (omega (arith, c.if-hash-n.false)) c.requires.few
    c.ilog2.ensures.power_le c.ilog2.ensures.next_power_gt).1

pub returns-clause-least : goal.returns-clause-least
returns-clause-least c =
    (behind c.args.n c.args.hash c.ilog2.result c.requires.size (omega (arith, c.if-hash-n.false)) c.requires.few
    c.ilog2.ensures.power_le c.ilog2.ensures.next_power_gt).2
