use Rattle.std.proofs.Common.{rules, ◌+◌, ◌-◌, ◌^◌, []}
use Rattle.completers.specs.Rights.{nodes, up_in}
use Rattle.completers.proofs.Moves.{gives_own}
use Rattle.completers.proofs.tokens.Node.own.Goals as goal

pub load-requires : goal.load-requires
load-requires g c =
    let key = c.tree.inside.board.shared.key in
    let n = c.self.inside in (
      search rules,
      search rules,
      gives_own (g.B.Relation.relates key.relation.value) key.bins _ _ _ n.node n.lo n.hi (n.forks + 1)
          (up_in n.seat.me.0) (nodes (n.node + 1) (2 ^ n.level - 1)) [] c.self.invariant.rights,
    )
