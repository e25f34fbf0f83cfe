use Rattle.std.proofs.Common.{◌≡◌, ap, arith}
use Rattle.steal_pool.specs.Ways.{weight_stolen}
use Rattle.steal_pool.proofs.member.Member.settle.Goals as goal

pub returns : goal.returns
returns g c =
    let b = c.settle.ensures.books in (
      b.0,
      b.1,
      λ h. let none : weight_stolen {A = g.row.A.Denot} {S = g.row.S.Denot} {g = g.S.Seats} h c.args.self.now.ways.items ≡ 0 =
          ap (weight_stolen {A = g.row.A.Denot} {S = g.row.S.Denot} {g = g.S.Seats} h) c.requires.1 in
          let s = b.2 h in omega arith,
    )
