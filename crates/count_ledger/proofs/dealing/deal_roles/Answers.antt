use Rattle.std.proofs.Common.{◌+◌, refl, sym, ap, ◌∙◌, arith}
use Rattle.std.proofs.lemmas.List.FromFn.{map-range_with_len_more}
use Rattle.count_ledger.specs.Opening.{new_role}
use Rattle.count_ledger.proofs.Openings.{range_next}
use Rattle.count_ledger.proofs.dealing.deal_roles.Goals as goal

pub invariant_of-push_reserved : goal.invariant_of-push_reserved
invariant_of-push_reserved g c =
    let view = rw (range_next c.loop-index.index c.args.n c.loop-index-test.true) at c.loop-index.invariant.view in
    let me = rw view at c.take_first-seat.ensures.first in
    rw (c.into_badge.ensures.2, me, c.new.ensures, c.requires.bases) refl

pub loop-index-preserved : goal.loop-index-preserved
loop-index-preserved g c =
    let view = rw (range_next c.loop-index.index c.args.n c.loop-index-test.true) at c.loop-index.invariant.view in
    let me = rw view at c.take_first-seat.ensures.first in
    record {
      roles = rw (
        c.push_reserved.ensures.items,
        c.loop-index.invariant.roles,
        c.into_badge.ensures.2,
        me,
        c.into_badge.ensures.0,
        c.take_first-seat.ensures.seat,
        c.loop-index.invariant.table,
        c.new.ensures,
        c.requires.bases,
      ) (sym (map-range_with_len_more
          (new_role c.args.all.now.table_id c.args.shared.now.key.salt c.args.shared.now.key.bases) 0 c.loop-index.index
          c.loop-index.index (omega arith)));
      room = rw c.push_reserved.ensures.capacity c.loop-index.invariant.room;
      len = rw c.push_reserved.ensures.len (ap (λ n. n + 1) c.loop-index.invariant.len);
      table = c.take_first-seat.ensures.all ∙ c.loop-index.invariant.table;
      view = rw view at c.take_first-seat.ensures.others;
    }
