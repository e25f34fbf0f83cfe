use Rattle.std.proofs.Common.{◌≡◌, ◌++◌}
use Rattle.std.specs.Vec.Iter.{into_iter_items}
use Rattle.test_bins.proofs.held.hold_all.Given as goal

abbrev pub invariant-loop-role : goal.invariant-loop-role
invariant-loop-role g l = l.bins.items ++ into_iter_items l.role-iterator ≡ l.fn.roles.items
