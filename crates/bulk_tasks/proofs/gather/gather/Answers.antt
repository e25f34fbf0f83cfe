use Rattle.std.proofs.Common.{◌<◌, List, length, subst, sym, arith}
use Rattle.chm.specs.Headline.{entries_of}
use Rattle.bulk_tasks.proofs.gather.gather.Goals as goal

pub collect-requires-then-batch-eq0 : goal.collect-requires-then-batch-eq0
collect-requires-then-batch-eq0 g c =
    let is = c.mapping_count-count.ensures in
    record {
      few = subst (λ (bins : List _). length (entries_of bins) < 18446744073709551616) (sym c.bins-bins.ensures)
          (omega (arith, is));
    }

pub invariant_of-body : goal.invariant_of-body
invariant_of-body g c =
    let is = c.mapping_count-count.ensures in
    record {
      few = subst (λ (bins : List _). length (entries_of bins) < 18446744073709551616) (sym c.bins-bins.ensures)
          (omega (arith, is));
    }
