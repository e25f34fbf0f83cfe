use Rattle.std.proofs.Common.{◌∙◌, sym, arith}
use Rattle.bin_history.specs.Calls.{key_of}
use Rattle.hashkeys.specs.Classes.{is_of}
use Rattle.bin_entries.proofs.Filters.{filter_more_kept, filter_more_left}
use Rattle.bin_history.proofs.split.part_of_records.Goals as goal
use Rattle.bin_history.proofs.split.part_of_records.Goals.{then-is_of+in_ok-copy_of_record+in_ok-push, else-is_of}

pub loop-entry-preserved : goal.loop-entry-preserved
loop-entry-preserved g c =
    let x = c.entry-item.result in
    let tested = rw (c.key.ensures, c.call.ensures) at c.is_of.ensures in
    elim c.if-is_of.branch [
      | then-is_of+in_ok-copy_of_record+in_ok-push w ↦
          let kept = filter_more_kept (λ r. is_of g.K.HashKey.code c.args.salt c.args.class (key_of r.call))
          c.args.records.now c.loop-entry.entry-index x
          (omega arith) c.entry-item.is (sym tested ∙ w.if-is_of.true) in
          cc (kept, w.in_ok-copy_of_record.ensures, w.in_ok-push.ensures.items, c.loop-entry.invariant)
      | else-is_of w ↦
          let left = filter_more_left (λ r. is_of g.K.HashKey.code c.args.salt c.args.class (key_of r.call))
          c.args.records.now c.loop-entry.entry-index x
          (omega arith) c.entry-item.is (sym tested ∙ w.if-is_of.false) in
          cc (left, c.loop-entry.invariant)
    ]
