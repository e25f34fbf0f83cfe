use Rattle.std.proofs.Common.{◌≡◌, List, drop, length, ap, arith}
use Rattle.std.proofs.lemmas.List.{length-map, take_at}
use Rattle.crossbeam_deque.specs.Handles.{worker_view}
use Rattle.steal_pool.specs.declared.way.Way.{Way}
use Rattle.steal_pool.specs.Logs.{weigh}
use Rattle.steal_pool.specs.Ways.{weight_stolen}
use Rattle.steal_pool.proofs.Moves.{weigh_snoc}
use Rattle.steal_pool.proofs.member.Member.take.Goals as goal

pub invariant_of-self-clause-pushes : goal.invariant_of-self-clause-pushes
invariant_of-self-clause-pushes g c n is =
    let before = c.args.self.now.pushes n is in
    let v = ap (λ v. weigh (λ _. 1) v.pushed) c.in-Some.ensures.log in
    omega (arith, before, v)

pub invariant_of-self-clause-takes : goal.invariant_of-self-clause-takes
invariant_of-self-clause-takes g c n is =
    let o = c.one_more-self.ensures n is in
    let before = c.args.self.now.takes o.0 o.1 in
    let more = weigh_snoc (λ _. 1) (worker_view c.args.self.now.own).taken c.in-Some.task in
    let v = ap (λ v. weigh (λ _. 1) v.taken) c.in-Some.ensures.log in
    omega (arith, o.2, before, more, v)

pub invariant_of-self-2-clause-pushes : goal.invariant_of-self-2-clause-pushes
invariant_of-self-2-clause-pushes g c n is =
    let before = c.args.self.now.pushes n is in
    let v = ap (λ v. weigh (λ _. 1) v.pushed) c.in_default.ensures.log in
    omega (arith, before, v)

pub invariant_of-self-2-clause-takes : goal.invariant_of-self-2-clause-takes
invariant_of-self-2-clause-takes g c n is =
    let o = c.one_more-self-2.ensures n is in
    let before = c.args.self.now.takes o.0 o.1 in
    let v = ap (λ v. weigh (λ _. 1) v.taken) c.in_default.ensures.log in
    let t = c.in_ok-task.ensures.taken (λ _. 1) in
    let old : List (Way g.row.T.Denot g.row.A.Denot g.row.S.Denot g.S.Seats) = c.as_mut_slice.result.now in
    let new : List (Way g.row.T.Denot g.row.A.Denot g.row.S.Denot g.S.Seats) = c.steal_any.new.ways in
    let l = ap length c.steal_any.ensures.ways in
    let long : length new ≡ c.args.self.now.ways.len =
    omega (arith, l, length-map new (λ w. w.to), length-map old (λ w. w.to), c.as_mut_slice.ensures.len) in
    let back = take_at new (drop (length new) c.args.self.now.ways.items) c.args.self.now.ways.len long in
    let w = ap (weight_stolen (λ _. 1)) back in
    let w' = ap (weight_stolen (λ _. 1)) c.as_mut_slice.ensures.value in
    omega (arith, o.2, before, v, t, w, w')
