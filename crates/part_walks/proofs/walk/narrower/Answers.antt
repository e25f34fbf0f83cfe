use Rattle.std.proofs.Common.{arith}
use Rattle.part_walks.proofs.Parting.{covers-own, covers-wider}
use Rattle.part_walks.proofs.walk.narrower.Goals as goal

pub returns-else-n-clause-first : goal.returns-else-n-clause-first
returns-else-n-clause-first c = record {
  next_is = c.n.ensures.class;
  class_is = c.n.ensures.class;
  covers = covers-own c.args.next c.n.ensures.class;
  narrow = omega arith;
}

pub returns-else-n-clause-within : goal.returns-else-n-clause-within
returns-else-n-clause-within c = λ hash of.
    let no = c.if-n.false in
    let one = c.n.ensures.value in
    let two = c.n-2.ensures.value in
    covers-wider c.args.class c.args.next hash c.n-2.ensures.class c.n.ensures.class (omega arith) c.requires.covers of
