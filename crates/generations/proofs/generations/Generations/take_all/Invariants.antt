use Rattle.std.proofs.Common.{◌-◌, All, vec_len, vec_capacity}
use Rattle.bin_history.specs.Calls.{after}
use Rattle.bin_layout.specs.BinsWithRoles.{AreBinsWithRoles, classes_of_bins}
use Rattle.bin_layout.specs.Walks.{IsWalkTo}
use Rattle.generations.specs.Generations.{FitsForm}
use Rattle.generations.proofs.generations.Generations.take_all.Given as goal

abbrev pub invariant-loop-roles : goal.invariant-loop-roles
invariant-loop-roles g l =
    record {
      walk : IsWalkTo l.n (classes_of_bins l.bins.items) l.next;
      with_roles : AreBinsWithRoles g.K.PartialEq.eq g.K.HashKey.code
          (after g.V.PartialEq.eq g.F.Remap.remapped g.F.Remap.merged) l.self l.bins.items l.roles.items;
      few : All (λ b. FitsForm l.self b.class.n) l.bins.items;
    }

abbrev pub decreases-loop-roles : goal.decreases-loop-roles
decreases-loop-roles g l = vec_capacity l.bins - vec_len l.bins
