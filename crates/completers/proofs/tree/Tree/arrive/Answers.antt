use Rattle.std.proofs.Common.{◌≡◌, ◌≢◌, ℕ, ◌+◌, ◌*◌, ◌≤◌, List, ◌∷◌, [], Contains, length, sym, ap, ◌∙◌, subst}
use lib.ListN.{get_elem?}
use mathlib.Core.Option.{some}
use Rattle.std.specs.Prelude.{false}
use Rattle.completers.specs.Arrived.{IsWholeNode}
use Rattle.completers.specs.Parts.{AreParts, present, slots_of, stack}
use Rattle.completers.specs.Rights.{IsTicketAbove, node_in, path_of}
use Rattle.completers.specs.Rights.{code as code_of}
use Rattle.completers.specs.declared.rule.Right.{Right}
use Rattle.completers.proofs.Arrivals.{arrives}
use Rattle.completers.proofs.Ends.{alone, full, own_is, is_part}
use Rattle.completers.proofs.Parting.{among}
use Rattle.completers.proofs.tree.Tree.arrive.Goals as goal

pub count_down-requires-clause-rule : goal.count_down-requires-clause-rule
count_down-requires-clause-rule g c =
    let key = c.self.inside.board.shared.key in
    let t = c.args.ticket in
    let part = subst (λ r. g.B.Relation.relates r c.args.partial.lo c.args.partial.hi c.args.partial.part)
    (ap (λ v. v.relation) (sym c.self.view_is)) c.requires.part in
    rw (ap (λ v. v.node) c.ticket.view_is) (arrives
    (g.B.Relation.relates key.relation.value) key.bins _ _ _ t.node t.number t.lo t.hi t.forks _ t.above c.args.partial
    c.fill-seat.ensures.slot
    (is_part (g.B.Relation.relates key.relation.value) t.lo t.hi c.args.partial c.requires.range.0
    c.requires.range.1 part))

pub returns-then-count_down-ne1-clause-alone : goal.returns-then-count_down-ne1-clause-alone
returns-then-count_down-ne1-clause-alone g c own none =
    let e = (rw c.fill-seat.ensures.slot at c.count_down.ensures.told).0 in
    let one : length e.0.arrived ≡ 1 = e.3.1 own ∙ ap (λ (f : ℕ). f + 1) none in
    let first : get_elem? e.0.arrived 0 ≡ some false =
    subst (λ (t : ℕ). get_elem? e.0.arrived t ≡ some false) own e.2.0 in
    absurd (c.if-count_down-ne1.true (sym e.3.0 ∙ alone e.0.arrived one first))

pub above-above-requires-clause-above : goal.above-above-requires-clause-above
above-above-requires-clause-above g c =
    let key = c.self.inside.board.shared.key in
    let n : ℕ = c.args.ticket.node in
    let t = (rw c.fill-seat.ensures.slot at c.count_down.ensures.told).1 c.if-count_down-ne1.false in
    let is = full n t.held _ c.empty_all-slots.result t.all_slots c.empty_all-slots.ensures.found in
    let rights = c.empty_all-slots.ensures.rights in
    let table = c.empty_all-slots.ensures.table
    ∙ (c.count_down.ensures.table ∙ (c.fill-seat.ensures.table ∙ ap (λ v. v.identity) (sym c.self.view_is))) in (
      t.lo,
      t.hi,
      subst (λ l. AreParts (g.B.Relation.relates c.args.self.now.relation) t.lo t.hi (present l)) (sym is)
          (subst (λ r. AreParts (g.B.Relation.relates r) t.lo t.hi (present (t.held 0 ∷ stack t.held 7)))
          (ap (λ v. v.relation) c.self.view_is) t.parts),
      subst (λ b. IsTicketAbove b t.lo t.hi c.empty_all-slots.new.seat.me.0) (ap (λ v. v.bins) c.self.view_is)
          (subst (IsTicketAbove key.bins t.lo t.hi) (sym rights) t.above),
      ap code_of rights ∙ t.coded,
      subst (λ (u : List Right × ℕ). (u.0 ≢ []) → 8 * node_in u.0 + 8 ≤ u.1)
          (λ k. (sym rights k, (sym table k).slots)) t.inside,
      (t.first.0, own_is t.held c.empty_all-slots.result is ∙ t.first.1, t.first.2),
    )

pub returns-clause-last : goal.returns-clause-last
returns-clause-last g c =
    let n : ℕ = c.args.ticket.node in
    let t = (rw c.fill-seat.ensures.slot at c.count_down.ensures.told).1 c.if-count_down-ne1.false in
    let is = full n t.held _ c.empty_all-slots.result t.all_slots c.empty_all-slots.ensures.found in
    let rights = c.empty_all-slots.ensures.rights in
    rw c.of.ensures (
      subst (λ l. Contains (present l) c.args.partial) (sym is)
          (among t.held c.args.ticket.number c.args.partial c.fill-seat.ensures.inside.2 t.mine),
      subst (λ up. IsWholeNode c.args.self.now (g.B.Relation.relates c.args.self.now.relation) up
          (present (slots_of c.empty_all-slots.result)) c.above-above.result) (ap path_of rights ∙ t.path)
          c.above-above.ensures,
    )
