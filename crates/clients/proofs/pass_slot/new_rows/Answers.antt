use Rattle.std.proofs.Common.{◌≡◌, ℕ, ◌+◌, ◌<◌, ◌≤◌, List, [], ◌∷◌, length, slice_index_or, vec_capacity}
use Rattle.std.proofs.Common.{ap, refl, sym, subst, ◌∙◌, arith}
use Rattle.std.proofs.lemmas.List.{length-append}
use Rattle.clients.specs.PassPools.{IsRow, RowView}
use Rattle.clients.proofs.Rows.{row-made, rows-push}
use Rattle.clients.proofs.pass_slot.new_rows.Goals as goal

pub loop-row-preserved : goal.loop-row-preserved
loop-row-preserved g c =
    let inv = c.loop-row.invariant in
    let rows = c.loop-row.rows.items in
    let made = c.new.result in
    let low : c.loop-row.row < 14 = c.loop-row-test.true in
    let is = row-made c.args.tag.now.numbers c.loop-row.row _ made low refl c.new.ensures.first c.new.ensures.len
    c.new.ensures.ledger in
    let items = c.push_reserved.ensures.items in
    record {
      len = ap length items ∙ length-append rows (made ∷ []) ∙ (let l = inv.len in omega (arith, l));
      room = (let cap = c.push_reserved.ensures.capacity in let r = inv.room in omega (arith, cap, r));
      each = subst (λ (l : List RowView). (i : ℕ) (r : RowView) → i < c.loop-row.row + 1 →
          IsRow c.args.tag.now.numbers i (slice_index_or l i r)) (sym items)
          (rows-push c.args.tag.now.numbers rows made c.loop-row.row inv.len is inv.each);
    }
