use Rattle.std.proofs.Common.{ap, arith}
use Rattle.crossbeam_deque.specs.Handles.{worker_view}
use Rattle.steal_pool.specs.Logs.{weigh}
use Rattle.steal_pool.proofs.Moves.{weigh_snoc}
use Rattle.steal_pool.proofs.member.Member.push.Goals as goal

pub invariant_of-self-2-clause-pushes : goal.invariant_of-self-2-clause-pushes
invariant_of-self-2-clause-pushes g c n is =
    let o = c.one_more-self.ensures n is in
    let before = c.args.self.now.pushes o.0 o.1 in
    let more = weigh_snoc (λ _. 1) (worker_view c.args.self.now.own).pushed c.args.task in
    let v = ap (λ v. weigh (λ _. 1) v.pushed) c.in_ok-push.ensures.log in
    omega (arith, o.2, before, more, v)

pub invariant_of-self-2-clause-takes : goal.invariant_of-self-2-clause-takes
invariant_of-self-2-clause-takes g c n is =
    let before = c.args.self.now.takes n is in
    let v = ap (λ v. weigh (λ _. 1) v.taken) c.in_ok-push.ensures.log in
    omega (arith, before, v)
