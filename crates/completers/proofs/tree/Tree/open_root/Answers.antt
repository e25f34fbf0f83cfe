use Rattle.std.proofs.Common.{◌+◌, ◌*◌, ◌<◌, ◌≤◌, ◌-◌, ◌^◌, ◌∷◌, [], ap, sym, ◌∙◌, subst}
use Rattle.completers.specs.Rights.{nodes}
use Rattle.completers.specs.Steps.{opened_rights}
use Rattle.completers.specs.declared.rule.Right.TheVariants.{Opened}
use Rattle.completers.proofs.Ends.{is_node}
use Rattle.completers.proofs.Forks.{opens_root}
use Rattle.completers.proofs.Seats.{nodes_step, some_nodes}
use Rattle.completers.proofs.tree.Tree.open_root.Goals as goal

pub write_code-requires-clause-rule : goal.write_code-requires-clause-rule
write_code-requires-clause-rule g c =
    let key = c.self.inside.board.shared.key in
    let s = c.supply.inside in
    let rights = c.supply.invariant.rights
    ∙ ap (λ l. (l, [])) (nodes_step s.first (2 ^ s.level) (some_nodes s.level)) in
    let whole = c.requires.range.1 ∙ ap (λ v. v.bins) (sym c.self.view_is) in
    opens_root (g.B.Relation.relates key.relation.value) key.bins _ _ _ s.first
    (nodes (s.first + 1) (2 ^ s.level - 1)) [] rights
    (subst (λ n. 0 < n) whole c.requires.range.0)

pub invariant_of-result : goal.invariant_of-result
invariant_of-result g c =
    let key = c.self.inside.board.shared.key in
    let s = c.supply.inside in
    let rights = c.supply.invariant.rights
    ∙ ap (λ l. (l, [])) (nodes_step s.first (2 ^ s.level) (some_nodes s.level)) in
    let whole = ap (λ v. v.bins) c.self.view_is ∙ sym c.requires.range.1 in
    record {
      rights = is_node _ s.first 0 c.args.bins 1 [] (nodes (s.first + 1) (2 ^ s.level - 1))
          (c.write_code.ensures.told ∙ (ap (λ m. (opened_rights key.bins m.0, m.1)) rights
          ∙ ap (λ n. (Opened s.first 0 n 1 [] ∷ nodes (s.first + 1) (2 ^ s.level - 1), [])) whole));
      inside = subst (λ t. 8 * (s.first + 2 ^ s.level) ≤ t.slots) (sym c.write_code.ensures.table)
          c.supply.invariant.inside;
      few = c.supply.invariant.few;
      range = c.requires.range.0;
    }
