use Rattle.std.proofs.Common.{rules, arith, ◌≡◌, ℕ, ◌+◌, ◌<◌, ◌≤◌, List, ◌∷◌, [], ◌++◌, length, map, set, vec_len, refl}
use Rattle.std.proofs.Common.{ap, sym, ◌∙◌, subst}
use Rattle.std.proofs.lemmas.List.{append-nil, length-append, length-map, length-set, map_push}
use Rattle.steal_pool.proofs.Sums.{kept_by_push}
use Rattle.std.specs.Prelude.{Some}
use Rattle.std.proofs.lemmas.List.Elements.{All-pop}
use Rattle.crossbeam_deque.specs.Handles.{worker_deque}
use Rattle.steal_pool.specs.Limits.{most_workers}
use Rattle.steal_pool.specs.Seating.{AreSeated, IsFresh}
use Rattle.steal_pool.proofs.Seating.{last_seat, other_seats}
use Rattle.steal_pool.specs.declared.member.Member.{Member}
use Rattle.steal_pool.specs.declared.way.Way.{Way}
use Rattle.steal_pool.specs.Shapes.{Shape, countdown, numbers, shape, targets}
use Rattle.steal_pool.specs.Logs.{weigh}
use Rattle.steal_pool.specs.Ways.{weight_brought_by, weight_stolen}
use Rattle.std.proofs.lemmas.Option.{same_Some}
use Rattle.steal_pool.proofs.Shapes.{hands, one_alone, one_numbered}
use Rattle.steal_pool.proofs.crew.members.Goals as goal
use Rattle.steal_pool.proofs.crew.members.Goals.{then-before-index, else-before-index}

pub invariant_of-push : goal.invariant_of-push
invariant_of-push g c =
    let all = subst (AreSeated worker_deque g.S.Seats.deque) c.in-Some.ensures.items c.loop-own.invariant.seats in
    let whole : IsFresh c.in-Some.own = (All-pop IsFresh c.loop-own.deques.items c.pop.new.self.items
    (Some c.in-Some.own) c.in-Some.ensures.items c.loop-own.invariant.shares).1 in
    let count : length c.pop.new.self.items ≡ c.len.result = search rules in
    let longer : length c.loop-own.deques.items ≡ length c.pop.new.self.items + 1 = ap length c.in-Some.ensures.items
    ∙ length-append c.pop.new.self.items (c.in-Some.own ∷ []) in
    let most : length c.loop-own.deques.items ≤ most_workers =
    omega (arith, c.loop-own.deques.ok.0, c.loop-own.invariant.few) in
    record {
      deque = ap g.S.Seats.deque (sym count) ∙ last_seat worker_deque g.S.Seats.deque c.pop.new.self.items
          c.in-Some.own all;
      shares = (let all_his = ap (λ v. v.shares) whole in omega arith);
      some = omega arith;
      few = (let less : c.len.result < most_workers = omega (arith, count, longer, most) in less);
      pushes = λ n is. let p = ap (λ v. weigh (λ _. 1) v.pushed) whole in let z = same_Some 0 n is in omega arith;
      takes = λ n is. let p = ap (λ v. weigh (λ _. 1) v.taken) whole in let z = same_Some 0 n is in
          let s : weight_stolen (λ _. 1) c.new.result.items ≡ 0 = ap (weight_stolen (λ _. 1)) c.new.ensures.items in omega arith;
    }

pub loop-own-preserved : goal.loop-own-preserved
loop-own-preserved g c =
    let all = subst (AreSeated worker_deque g.S.Seats.deque) c.in-Some.ensures.items c.loop-own.invariant.seats in
    let longer : length c.loop-own.deques.items ≡ length c.pop.new.self.items + 1 = ap length c.in-Some.ensures.items
    ∙ length-append c.pop.new.self.items (c.in-Some.own ∷ []) in
    let most : length c.loop-own.deques.items ≤ most_workers =
    omega (arith, c.loop-own.deques.ok.0, c.loop-own.invariant.few) in
    let of : Member g.row.T.Denot g.row.A.Denot g.row.S.Denot g.S.Seats → Shape = shape in
    record {
      count = search rules;
      few = omega (arith, longer, most, c.pop.new.self.ok.0);
      shares = (All-pop IsFresh c.loop-own.deques.items c.pop.new.self.items
          (Some c.in-Some.own) c.in-Some.ensures.items c.loop-own.invariant.shares).0;
      seats = other_seats worker_deque g.S.Seats.deque c.pop.new.self.items c.in-Some.own all;
      numbered = one_numbered of c.loop-own.all.items c.push.new.self.items _ c.in_ok-push.ensures.items
          c.len-workers.result
          (vec_len c.loop-own.deques) (vec_len c.pop.new.self)
          (omega (arith, longer, c.loop-own.deques.ok.0, c.pop.new.self.ok.0))
          (omega (arith, c.pop.new.self.ok.0)) c.loop-own.invariant.numbered;
      ways = one_alone of c.loop-own.all.items c.push.new.self.items _ c.in_ok-push.ensures.items refl
          (ap targets c.new.ensures.items) c.loop-own.invariant.ways;
    }

pub loop-before-preserved : goal.loop-before-preserved
loop-before-preserved g c =
    let of : Member g.row.T.Denot g.row.A.Denot g.row.S.Denot g.S.Seats → Shape = shape in
    let to : Way g.row.T.Denot g.row.A.Denot g.row.S.Denot g.S.Seats → ℕ = λ w. w.to in
    let all = c.loop-before.all.items in
    let one = c.index_mut.result.now in
    let two = c.index_mut-in-loop-before.result.now in
    let before = set all c.if-before-index.other c.way.new.self in
    let long : length all ≡ c.len-workers.result = omega (arith, c.loop-before.all.ok.0, c.loop-before.invariant.0) in
    let other : c.if-before-index.other < length all =
    elim c.if-before-index.branch [ then-before-index w ↦ omega arith | else-before-index w ↦ omega arith ] in
    let same : length before ≡ length all = length-set all c.if-before-index.other c.way.new.self in
    let mine : c.loop-index.index < length before = omega arith in
    let more : map to c.push-in-loop-before.new.self.items ≡ map to two.ways.items ++ to c.in_ok-way.way ∷ [] =
    ap (map to) c.in_ok-push-2.ensures.items ∙ map_push to two.ways.items c.in_ok-way.way in (
      c.loop-before.invariant.0,
      hands of all c.if-before-index.other c.way.new.self one c.loop-index.index _ two
          (to c.in_ok-way.way) c.loop-before.invariant.1 other
          c.index_mut.ensures.value c.in_ok-way.ensures.shape c.in_ok-way.ensures.to mine
          c.index_mut-in-loop-before.ensures.value
          (ap (λ (l : List ℕ). record (of two) { ways = l }) more),
    )

pub loop-index-init : goal.loop-index-init
loop-index-init g c =
    let of : Member g.row.T.Denot g.row.A.Denot g.row.S.Denot g.S.Seats → Shape = shape in
    let all : List (Member g.row.T.Denot g.row.A.Denot g.row.S.Denot g.S.Seats) = c.loop-own.all.items in
    let none : c.loop-own.deques.items ≡ [] = search rules in
    let none' = ap length none in
    let left : vec_len c.loop-own.deques ≡ 0 = omega (arith, none', c.loop-own.deques.ok.0) in
    let count : vec_len c.loop-own.all ≡ c.len-workers.result = omega (arith, left, c.loop-own.invariant.count) in
    let long : length (map of all) ≡ c.len-workers.result =
    omega (arith, length-map all of, count, c.loop-own.all.ok.0) in
    let rest : countdown (vec_len c.loop-own.deques) ≡ [] = ap countdown left in (
      count,
      record {
        numbered = sym (append-nil (numbers (map of all)))
            ∙ ap (λ (l : List ℕ). numbers (map of all) ++ l) (sym rest)
            ∙ c.loop-own.invariant.numbered
            ∙ ap countdown (sym long);
        ways = λ f. let w = c.loop-own.invariant.ways f in omega (arith, w.0, w.1);
      },
    )

pub invariant_of-index_mut-clause-takes : goal.invariant_of-index_mut-clause-takes
invariant_of-index_mut-clause-takes g c n is =
    let two = c.index_mut-in-loop-before.result.now in
    let brought : Way g.row.T.Denot g.row.A.Denot g.row.S.Denot g.S.Seats → ℕ = weight_brought_by (λ _. 1) in
    let before = two.takes n is in
    let fresh : brought c.in_ok-way.way ≡ 0 = ap (weigh (λ _. 1)) c.in_ok-way.ensures.none in
    let same : weight_stolen (λ _. 1) c.push-in-loop-before.new.self.items ≡ weight_stolen (λ _. 1) two.ways.items =
    kept_by_push brought _ two.ways.items _ c.in_ok-way.way fresh c.push-in-loop-before.ensures.items in
    omega (arith, before, same)
