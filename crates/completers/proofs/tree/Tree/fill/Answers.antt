use Rattle.std.proofs.Common.{rules, []}
use Rattle.completers.specs.Rights.{forks_in, up_in}
use Rattle.completers.proofs.Moves.{takes_slot}
use Rattle.completers.proofs.tree.Tree.fill.Goals as goal

pub load-code-requires : goal.load-code-requires
load-code-requires g c =
    let key = c.self.inside.board.shared.key in
    let t = c.ticket.inside in (
      search rules,
      search rules,
      takes_slot (g.B.Relation.relates key.relation.value) key.bins _ _ _ t.node t.number t.lo t.hi
          (forks_in t.seat.me.0) (up_in t.seat.me.0) [] c.ticket.invariant.rights,
    )
