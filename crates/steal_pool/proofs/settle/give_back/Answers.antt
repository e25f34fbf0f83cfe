use Rattle.std.proofs.Common.{◌≡◌, ℕ, ◌+◌, ◌-◌, ◌<◌, ◌∙◌, length, sum_by, sym, ap, arith}
use Rattle.std.proofs.lemmas.List.Sums.{sum_by_push}
use Rattle.steal_pool.specs.declared.member.Member.{Member}
use Rattle.steal_pool.specs.declared.way.Way.{Way}
use Rattle.steal_pool.specs.Books.{weight_pushed_by, weight_taken_by}
use Rattle.steal_pool.specs.Ways.{weight_brought_by}
use Rattle.steal_pool.specs.Shapes.{Shape, shape}
use Rattle.steal_pool.proofs.Sums.{kept, gained}
use Rattle.steal_pool.proofs.Shapes.{home, popped, same_ways, takes_back}
use Rattle.steal_pool.proofs.settle.give_back.Goals as goal

pub overflow_sub-home : goal.overflow_sub-home
overflow_sub-home g c =
    let crew = popped (λ w. w.to) _ _ _ _ c.in-Some.ensures.items c.loop-way.invariant.crew in
    let h = (home (shape {T = g.row.T.Denot} {A = g.row.A.Denot} {S = g.row.S.Denot} {g = g.S.Seats}) _ _ c.loop-way.members crew).0 in
    omega arith

pub overflow_sub-home-in-Some : goal.overflow_sub-home-in-Some
overflow_sub-home-in-Some g c =
    let crew = popped (λ w. w.to) _ _ _ _ c.in-Some.ensures.items c.loop-way.invariant.crew in
    let h = (home (shape {T = g.row.T.Denot} {A = g.row.A.Denot} {S = g.row.S.Denot} {g = g.S.Seats}) _ _ c.loop-way.members crew).0 in
    omega arith

pub bounds-members-home : goal.bounds-members-home
bounds-members-home g c =
    let crew = popped (λ w. w.to) _ _ _ _ c.in-Some.ensures.items c.loop-way.invariant.crew in
    let h = (home (shape {T = g.row.T.Denot} {A = g.row.A.Denot} {S = g.row.S.Denot} {g = g.S.Seats}) _ _ c.loop-way.members crew).0 in
    omega arith

pub take_back-requires-clause-to : goal.take_back-requires-clause-to
take_back-requires-clause-to g c =
    let crew = popped (λ w. w.to) _ _ _ _ c.in-Some.ensures.items c.loop-way.invariant.crew in
    sym ((home (shape {T = g.row.T.Denot} {A = g.row.A.Denot} {S = g.row.S.Denot} {g = g.S.Seats}) _ _ c.loop-way.members crew).1
    c.index-members-home.result).1

pub take_back-requires-clause-out : goal.take_back-requires-clause-out
take_back-requires-clause-out g c =
    let crew = popped (λ w. w.to) _ _ _ _ c.in-Some.ensures.items c.loop-way.invariant.crew in
    ((home (shape {T = g.row.T.Denot} {A = g.row.A.Denot} {S = g.row.S.Denot} {g = g.S.Seats}) _ _ c.loop-way.members crew).1
    c.index-members-home.result).0

pub loop-way-preserved : goal.loop-way-preserved
loop-way-preserved g c =
    let of : Member g.row.T.Denot g.row.A.Denot g.row.S.Denot g.S.Seats → Shape = shape in
    let ms = c.loop-way.members in
    let at = length ms - 1 - c.in-Some.way.to in
    let one = c.index-members-home.result in
    let crew = popped (λ w. w.to) _ _ _ _ c.in-Some.ensures.items c.loop-way.invariant.crew in
    let it = home of _ _ ms crew in
    let here : at < length ms = omega (arith, it.0) in
    let e = c.take_back.ensures in
    record {
      crew = takes_back of _ _ ms at c.take_back.new.self one crew here (it.1 one).1 e.shape.0 e.shape.1 e.shape.2;
      ways = same_ways of ms at c.take_back.new.self one here e.shape.2 ∙ c.loop-way.invariant.ways;
      pushed = λ h.
          kept (weight_pushed_by {A = g.row.A.Denot} {S = g.row.S.Denot} {g = g.S.Seats} h) ms at c.take_back.new.self one here (e.pushed h)
          ∙ c.loop-way.invariant.pushed h;
      taken = λ h.
          let brought : Way g.row.T.Denot g.row.A.Denot g.row.S.Denot g.S.Seats → ℕ = weight_brought_by h in
          let more = gained (weight_taken_by {A = g.row.A.Denot} {S = g.row.S.Denot} {g = g.S.Seats} h) ms at c.take_back.new.self one
          (brought c.in-Some.way) here (e.taken h) in
          let less : sum_by brought c.loop-way.ways.items ≡ sum_by brought c.pop.new.self.items + brought
          c.in-Some.way =
          ap (sum_by brought) c.in-Some.ensures.items ∙ sum_by_push brought c.pop.new.self.items c.in-Some.way in
          omega (arith, c.loop-way.invariant.taken h);
    }
