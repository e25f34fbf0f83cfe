use Rattle.std.specs.Prelude.{None}
use Rattle.completers.proofs.Seats.{ahead, next}
use Rattle.completers.proofs.tree.Tree.empty_all.Goals as goal

pub empty-requires-clause-slot : goal.empty-requires-clause-slot
empty-requires-clause-slot g c =
    ahead c.requires.slots.1

pub empty-requires-2-clause-slot : goal.empty-requires-2-clause-slot
empty-requires-2-clause-slot g c =
    let e1 = next None c.requires.slots.1 c.empty.ensures.slots in
    ahead e1

pub empty-requires-3-clause-slot : goal.empty-requires-3-clause-slot
empty-requires-3-clause-slot g c =
    let e1 = next None c.requires.slots.1 c.empty.ensures.slots in
    let e2 = next None e1 c.empty-2.ensures.slots in
    ahead e2

pub empty-requires-4-clause-slot : goal.empty-requires-4-clause-slot
empty-requires-4-clause-slot g c =
    let e1 = next None c.requires.slots.1 c.empty.ensures.slots in
    let e2 = next None e1 c.empty-2.ensures.slots in
    let e3 = next None e2 c.empty-3.ensures.slots in
    ahead e3

pub empty-requires-5-clause-slot : goal.empty-requires-5-clause-slot
empty-requires-5-clause-slot g c =
    let e1 = next None c.requires.slots.1 c.empty.ensures.slots in
    let e2 = next None e1 c.empty-2.ensures.slots in
    let e3 = next None e2 c.empty-3.ensures.slots in
    let e4 = next None e3 c.empty-4.ensures.slots in
    ahead e4

pub empty-requires-6-clause-slot : goal.empty-requires-6-clause-slot
empty-requires-6-clause-slot g c =
    let e1 = next None c.requires.slots.1 c.empty.ensures.slots in
    let e2 = next None e1 c.empty-2.ensures.slots in
    let e3 = next None e2 c.empty-3.ensures.slots in
    let e4 = next None e3 c.empty-4.ensures.slots in
    let e5 = next None e4 c.empty-5.ensures.slots in
    ahead e5

pub empty-requires-7-clause-slot : goal.empty-requires-7-clause-slot
empty-requires-7-clause-slot g c =
    let e1 = next None c.requires.slots.1 c.empty.ensures.slots in
    let e2 = next None e1 c.empty-2.ensures.slots in
    let e3 = next None e2 c.empty-3.ensures.slots in
    let e4 = next None e3 c.empty-4.ensures.slots in
    let e5 = next None e4 c.empty-5.ensures.slots in
    let e6 = next None e5 c.empty-6.ensures.slots in
    ahead e6

pub empty-requires-8-clause-slot : goal.empty-requires-8-clause-slot
empty-requires-8-clause-slot g c =
    let e1 = next None c.requires.slots.1 c.empty.ensures.slots in
    let e2 = next None e1 c.empty-2.ensures.slots in
    let e3 = next None e2 c.empty-3.ensures.slots in
    let e4 = next None e3 c.empty-4.ensures.slots in
    let e5 = next None e4 c.empty-5.ensures.slots in
    let e6 = next None e5 c.empty-6.ensures.slots in
    let e7 = next None e6 c.empty-7.ensures.slots in
    ahead e7
