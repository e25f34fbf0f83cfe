use Rattle.std.proofs.Common.{◌≡◌, [], drop, length, sym, ap, ◌∙◌, subst, arith}
use Rattle.std.proofs.lemmas.List.{take_at}
use Rattle.steal_pool.specs.Shapes.{AreCrew, shapes}
use Rattle.test_pool.proofs.settling.seated_take_two.Goals as goal

pub close-requires-clause-crew : goal.close-requires-clause-crew
close-requires-clause-crew g c =
    let new = c.two_take-newest.new.members in
    let long : length new ≡ c.in_ok-members.members.len = omega arith in
    let back = take_at new (drop (length new) c.in_ok-members.members.items) c.in_ok-members.members.len long in
    let same : shapes new ≡ shapes c.in_ok-members.members.items = c.two_take-newest.ensures
    ∙ ap shapes c.as_mut_slice.ensures.value in
    let all : AreCrew [] (shapes new) = subst (AreCrew []) (sym same) c.in_ok-members.ensures.crew in
    rw back all
