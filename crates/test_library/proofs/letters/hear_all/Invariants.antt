use Rattle.std.proofs.Common.{◌≡◌}
use Rattle.test_library.proofs.letters.hear_all.Given as goal

abbrev pub invariant-loop-number : goal.invariant-loop-number
invariant-loop-number g l = l.client.map ≡ l.initial.client.map
