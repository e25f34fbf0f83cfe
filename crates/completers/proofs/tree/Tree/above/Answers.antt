use Rattle.std.proofs.Common.{rules, arith, ◌≡◌, ◌<◌, ◌≤◌, ℕ, ◌+◌, ◌-◌, ◌*◌, ◌/◌, ◌%◌, ◌∷◌, [], sym, ap, ◌∙◌}
use Rattle.std.proofs.Common.{subst}
use Rattle.completers.specs.Parts.{start_of, slots_of, ends}
use Rattle.completers.specs.Rights.{head, tail}
use Rattle.completers.specs.declared.rule.Right.TheVariants.{Waits}
use Rattle.completers.proofs.Cells.{splits}
use Rattle.completers.proofs.Seats.{first_weight}
use Rattle.completers.proofs.Ends.{not_empty, ends_at, again, is_ticket}
use Rattle.completers.proofs.tree.Tree.above.Goals as goal

pub split_seat-above-requires : goal.split_seat-above-requires
split_seat-above-requires g c =
    let key = c.self.inside.board.shared.key in
    let v = c.args.seat.me.0 in (
      search rules,
      search rules,
      splits (g.B.Relation.relates key.relation.value) key.bins _ v (tail v) (head v)
          (λ h. first_weight h v),
    )

pub invariant_of-result : goal.invariant_of-result
invariant_of-result g c =
    let fits = g.B.Relation.relates c.args.self.now.relation in
    let r = c.requires.above in
    let lo : ℕ = r.0 in
    let hi : ℕ = r.1 in
    let ps = c.args.slots.now in
    let e = c.split_seat-above.ensures in
    let k : ℕ = c.args.code in
    let a = again lo hi c.args.self.now.bins k c.args.seat.table_id.slots c.args.seat.me.0 r.3 r.4
    c.if-code-eq0.false r.5 in
    let start = ap start_of r.6.1 ∙ r.6.2 in
    let lo_is : c.lo.result ≡ lo = c.lo.ensures ∙ start in
    let hi_is : c.hi.result ≡ hi =
    c.hi.ensures ∙ (ap (λ z. ends z (slots_of ps)) start ∙ ends_at fits lo hi (slots_of ps) r.2) in
    let less : lo < hi = not_empty fits lo hi r.6.0 _ ps.own r.6.1 r.2 in
    record {
      rights = is_ticket _ ((k - 1) / 8) ((k - 1) % 8) c.lo.result c.hi.result a.0 a.1
          (e.4 ∙ (ap (λ l. (head l, [])) a.2
          ∙ (λ i. (Waits ((k - 1) / 8) ((k - 1) % 8) (sym lo_is i) (sym hi_is i) a.0 a.1 ∷ [], []))));
      small = (let z : (k - 1) % 8 < 8 = omega arith in z);
      inside = subst (λ t. 8 * ((k - 1) / 8) + 8 ≤ t.slots) (sym e.3) a.3;
      range = subst (λ (z : ℕ × ℕ). z.0 < z.1) (λ i. (sym lo_is i, sym hi_is i)) less;
    }
