use Rattle.std.proofs.Common.{rules, arith, ◌≡◌, ℕ, ◌+◌, ◌-◌, ◌*◌, ◌/◌, ◌%◌, ◌^◌, ◌<◌, ◌≤◌, [], length, sym, ap}
use Rattle.std.proofs.Common.{◌∙◌}
use Rattle.std.proofs.Common.{subst}
use Rattle.completers.specs.Rights.{nodes, head, tail, lower_half, upper_half, up_in}
use Rattle.completers.specs.Steps.{forked_rights}
use Rattle.completers.specs.Views.{after_fork}
use Rattle.completers.specs.declared.rule.Right.TheVariants.{Opened}
use Rattle.completers.proofs.Cells.{splits}
use Rattle.completers.proofs.Ends.{is_ticket, is_node, left_node}
use Rattle.completers.proofs.Forks.{forks_node}
use Rattle.completers.proofs.Seats.{first_weight, rest_weight, upper, has_slots, two_halves}
use Rattle.completers.proofs.tokens.Node.fork.Goals as goal

pub count_up-requires-clause-rule : goal.count_up-requires-clause-rule
count_up-requires-clause-rule g c =
    let key = c.tree.inside.board.shared.key in
    let n = c.self.inside in
    let range = rw (← c.self.view_is) at c.requires.range in
    let slots : n.forks + 1 < c.tree.inside.slots = rw (← c.self.view_is, ← c.tree.view_is) at c.requires.slots in
    let few = c.tree.invariant.few_slots in
    forks_node (g.B.Relation.relates key.relation.value) key.bins c.args.mid _ _ _ n.node n.lo n.hi (n.forks + 1)
    (up_in n.seat.me.0)
    (nodes (n.node + 1) (2 ^ n.level - 1)) [] c.self.invariant.rights range.0 range.1 (omega arith)

pub split_seat-ticket-requires : goal.split_seat-ticket-requires
split_seat-ticket-requires g c =
    let key = c.tree.inside.board.shared.key in
    let v = c.count_up.new.seat.me.0 in (
      search rules,
      search rules,
      splits (g.B.Relation.relates key.relation.value) key.bins _ v (tail v) (head v)
          (λ h. first_weight h v),
    )

pub split_seat-supply-requires : goal.split_seat-supply-requires
split_seat-supply-requires g c =
    let key = c.tree.inside.board.shared.key in
    let v = c.split_seat-ticket.new.seat.me.0 in (
      search rules,
      search rules,
      splits (g.B.Relation.relates key.relation.value) key.bins _ v (lower_half v) (upper_half v)
          (λ h. rest_weight h (length v / 2) v),
    )

pub invariant_of-ticket : goal.invariant_of-ticket
invariant_of-ticket g c =
    let n = c.self.inside in
    let told = c.count_up.ensures.told.1.0 in
    let split = c.split_seat-ticket.ensures in
    let table = split.3 ∙ c.count_up.ensures.table in
    let slots : n.forks + 1 < c.tree.inside.slots = rw (← c.self.view_is, ← c.tree.view_is) at c.requires.slots in
    let few = c.tree.invariant.few_slots in
    record {
      rights = is_ticket _ n.node (n.forks + 1) c.args.mid n.hi 0 (up_in n.seat.me.0)
          (split.4 ∙
          (ap (λ m. (head m.0, [])) told ∙ ap (λ m. (head (forked_rights c.args.mid m.0), []))
          c.self.invariant.rights));
      small = omega arith;
      inside = subst (λ t. 8 * n.node + 8 ≤ t.slots) (sym table) (has_slots n.node n.level _ c.self.invariant.inside);
      range = (rw (← c.self.view_is) at c.requires.range).1;
    }

pub invariant_of-supply : goal.invariant_of-supply
invariant_of-supply g c =
    let n = c.self.inside in
    let o = Opened n.node n.lo c.args.mid (n.forks + 1 + 1) (up_in n.seat.me.0) in
    let told = c.count_up.ensures.told.1.0 in
    let first = c.split_seat-ticket.ensures in
    let split = c.split_seat-supply.ensures in
    let some : 0 < n.level = rw (← c.self.view_is) at c.requires.nodes in
    let table = split.3 ∙ (first.0 ∙ c.count_up.ensures.table) in
    let h : ℕ = 2 ^ (n.level - 1) in
    let all : ℕ = 2 ^ n.level in
    let two : all ≡ 2 * h = two_halves n.level some in
    let m : ℕ = n.node in
    let slots : ℕ = c.self.inside.seat.table_id.slots in
    let inside : 8 * (m + all) ≤ slots = c.self.invariant.inside in
    let size : slots ≡ 8 * c.tree.inside.board.shared.key.nodes =
    ap (λ t. t.slots) (ap (λ v. v.tree) c.self.view_is ∙ (c.requires.tree ∙ ap (λ v. v.identity) (sym c.tree.view_is)))
    ∙ c.tree.invariant.all_slots in
    let few = c.tree.invariant.few_nodes in
    let shifted : m + 1 * h % 18446744073709551616 ≡ m + h = omega arith in
    record {
      rights =
          split.4 ∙ (ap (λ u. (upper_half u.0, [])) first.2
          ∙ (ap (λ u. (upper_half (tail u.0), [])) told
          ∙ (ap (λ u. (upper_half (tail (forked_rights c.args.mid u.0)), [])) c.self.invariant.rights
          ∙ (ap (λ l. (l, [])) (upper o m n.level some) ∙ ap (λ (k : ℕ). (nodes k h, [])) (sym shifted)))));
      inside = subst (λ t. 8 * (m + 1 * h % 18446744073709551616 + h) ≤ t.slots) (sym table)
          (let q : 8 * (m + 1 * h % 18446744073709551616 + h) ≤ slots = omega arith in q);
      few = (let low = c.self.invariant.few in omega arith);
    }

pub invariant_of-self : goal.invariant_of-self
invariant_of-self g c =
    let n = c.self.inside in
    let first = c.split_seat-ticket.ensures in
    let split = c.split_seat-supply.ensures in
    let some : 0 < n.level = rw (← c.self.view_is) at c.requires.nodes in
    let up = up_in n.seat.me.0 in
    let table = split.0 ∙ (first.0 ∙ c.count_up.ensures.table) in
    let h : ℕ = 2 ^ (n.level - 1) in
    let all : ℕ = 2 ^ n.level in
    let two : all ≡ 2 * h = two_halves n.level some in
    let m : ℕ = n.node in
    let slots : ℕ = c.self.inside.seat.table_id.slots in
    let inside : 8 * (m + all) ≤ slots = c.self.invariant.inside in
    record {
      rights = is_node _ n.node n.lo c.args.mid (n.forks + 1 + 1) up (nodes (n.node + 1) (2 ^ (n.level - 1) - 1))
          (left_node _ _ _ _ c.args.mid n.node n.lo n.hi
          (n.forks + 1) n.level up some c.self.invariant.rights c.count_up.ensures.told.1.0 first.2 split.2);
      inside = subst (λ t. 8 * (m + h) ≤ t.slots) (sym table) (let q : 8 * (m + h) ≤ slots = omega arith in q);
      few = (let low = c.self.invariant.few in omega arith);
      range = (rw (← c.self.view_is) at c.requires.range).0;
    }

pub returns-clause-node : goal.returns-clause-node
returns-clause-node g c =
    let n = c.self.inside in
    let first = c.split_seat-ticket.ensures in
    let split = c.split_seat-supply.ensures in
    let some : 0 < n.level = rw (← c.self.view_is) at c.requires.nodes in
    let left = left_node _ _ _ _ c.args.mid n.node n.lo n.hi (n.forks + 1) n.level
    (up_in n.seat.me.0) some c.self.invariant.rights c.count_up.ensures.told.1.0 first.2 split.2 in
    let table = split.0 ∙ (first.0 ∙ c.count_up.ensures.table) in
    (λ t. record {
      tree = table t;
      node = n.node;
      lo = n.lo;
      hi = c.args.mid;
      forks = n.forks + 1;
      level = n.level - 1;
      above = ap (λ m. up_in m.0) left t;
    }) ∙ ap (after_fork c.args.mid) c.self.view_is
