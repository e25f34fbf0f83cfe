use Rattle.std.proofs.Common.{◌≡◌}
use Rattle.clients.specs.Filled.{ArePut}
use Rattle.clients.proofs.client.ClientOf.put_all.Given as goal

-- the pairs so far have been put
abbrev pub invariant-loop-key : goal.invariant-loop-key
invariant-loop-key g l =
    (goal.iterator-loop-key g).can_next l.key-iterator
    × (goal.iterator-loop-key g).is_finite l.key-iterator
    × (l.self.map ≡ l.initial.self.map)
    × ArePut g.K.PartialEq.eq g.V.PartialEq.eq g.F.Remap.remapped g.F.Remap.merged l.initial.self.map.ledger l.yielded
    l.initial.self.pass l.self.pass
