use Rattle.std.proofs.Common.{◌≡◌, [], drop, length, map, sym, ap, ◌∙◌, subst, arith}
use Rattle.std.proofs.lemmas.List.{take_at}
use Rattle.steal_pool.specs.Shapes.{AreCrew, shape, shapes}
use Rattle.steal_pool.proofs.Shapes.{same_map}
use Rattle.steal_pool.proofs.pool.run_crew.Goals as goal

pub close-tasks-requires-clause-crew : goal.close-tasks-requires-clause-crew
close-tasks-requires-clause-crew g c =
    let new = c.crew-found.new.members in
    let old = c.in_ok-members.members.items in
    let long : length new ≡ c.in_ok-members.members.len = omega arith in
    let back = take_at new (drop (length new) old) c.in_ok-members.members.len long in
    let same : shapes new ≡ shapes old =
    sym (same_map g.L.Labor.shape shape c.requires.shape new)
    ∙ c.crew-found.ensures.shapes
    ∙ ap (map g.L.Labor.shape) c.as_mut_slice.ensures.value
    ∙ same_map g.L.Labor.shape shape c.requires.shape old in
    let all : AreCrew [] (shapes new) = subst (AreCrew []) (sym same) c.in_ok-members.ensures.crew in
    rw back all
