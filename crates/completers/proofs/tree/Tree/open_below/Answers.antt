use Rattle.std.proofs.Common.{rules, ◌+◌, ◌-◌, ◌^◌, ◌++◌, [], refl, ap, ◌∙◌}
use Rattle.completers.specs.Rights.{nodes, forks_in, up_in}
use Rattle.completers.proofs.Cells.{joins}
use Rattle.completers.proofs.Forks.{opens_below}
use Rattle.completers.proofs.Seats.{nodes_step, some_nodes, join_weight}
use Rattle.completers.proofs.tree.Tree.open_below.Goals as goal

pub join_seat-requires : goal.join_seat-requires
join_seat-requires g c =
    let key = c.self.inside.board.shared.key in
    let v = c.above.inside.seat.me.0 in
    let w = c.supply.inside.seat.me.0 in (
      search rules,
      search rules,
      ap (λ m. m.1) c.supply.invariant.rights,
      search rules,
      joins (g.B.Relation.relates key.relation.value) key.bins _ v _ w (v ++ w) [] refl (λ h. join_weight h v w),
    )

pub write_code-requires-clause-rule : goal.write_code-requires-clause-rule
write_code-requires-clause-rule g c =
    let key = c.self.inside.board.shared.key in
    let t = c.above.inside in
    let s = c.supply.inside in
    let more = nodes_step s.first (2 ^ s.level) (some_nodes s.level) in
    let rights = c.join_seat.ensures.2 ∙ (λ k. (
      (c.above.invariant.rights k).0 ++ (ap (λ m. m.0) c.supply.invariant.rights ∙ more) k,
      (c.above.invariant.rights k).1,
    )) in
    opens_below (g.B.Relation.relates key.relation.value) key.bins _ _ _ _ t.node t.number t.lo t.hi
    (forks_in t.seat.me.0)
    (up_in t.seat.me.0) s.first (nodes (s.first + 1) (2 ^ s.level - 1)) [] rights c.above.invariant.small
    c.above.invariant.range
