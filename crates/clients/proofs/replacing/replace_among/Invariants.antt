use Rattle.std.proofs.Common.{◌≡◌, ◌≤◌, ◌++◌, length}
use Rattle.std.specs.Vec.Iter.{into_iter_items}
use Rattle.clients.specs.Replaced.{AreReplaced}
use Rattle.clients.proofs.replacing.replace_among.Given as goal

-- the values at the keys so far are changed
abbrev pub invariant-loop-key : goal.invariant-loop-key
invariant-loop-key g l =
    record {
      can_next : (goal.iterator-loop-key g).can_next l.key-iterator;
      is_finite : (goal.iterator-loop-key g).is_finite l.key-iterator;
      callable : goal.G-IsAlwaysCallable g l.left;
      ledger : l.pass.ledger ≡ l.initial.pass.ledger;
      client : l.pass.client ≡ l.initial.pass.client;
      count : l.replaced ≤ length l.pass.made;
      are : AreReplaced (goal.G-step g) g.K.PartialEq.eq g.V.PartialEq.eq g.F.Remap.remapped g.F.Remap.merged
          l.map.ledger l.yielded (l.fn.f, l.fn.count) l.initial.pass (l.left, l.replaced) l.pass;
      rest : l.yielded ++ into_iter_items l.key-iterator ≡ l.fn.entries.items;
    }
