use Rattle.std.proofs.Common.{◌≡◌, ℕ, ◌<◌, ◌≤◌, ◌∙◌, List, [], length, ap, subst, arith}
use Rattle.std.specs.Prelude.{All}
use Rattle.std.proofs.lemmas.List.{length-map, take_all}
use Rattle.steal_pool.specs.declared.member.Member.{Member}
use Rattle.steal_pool.specs.Books.{weight_pushed_by, weight_taken_by}
use Rattle.steal_pool.specs.Ways.{weight_stolen}
use Rattle.steal_pool.specs.Shapes.{Shape, own_ways, shape, shapes}
use Rattle.steal_pool.proofs.Sums.{kept, lent}
use Rattle.steal_pool.proofs.Shapes.{all_home, lays, more_none, nil_from_map}
use Rattle.steal_pool.proofs.settle.give_all_back.Goals as goal

pub give_back-none-requires : goal.give_back-none-requires
give_back-none-requires g c =
    let of : Member g.row.T.Denot g.row.A.Denot g.row.S.Denot g.S.Seats → Shape = shape in
    let here : c.loop-index.index < length c.loop-index.members = omega arith in
    lays of _ c.loop-index.members c.loop-index.index c.take_ways-ways.new.self c.index-members-index.result
    c.loop-index.invariant.crew
    here c.take_ways-ways.ensures.shape.0 c.take_ways-ways.ensures.shape.1

pub loop-index-preserved : goal.loop-index-preserved
loop-index-preserved g c =
    let of : Member g.row.T.Denot g.row.A.Denot g.row.S.Denot g.S.Seats → Shape = shape in
    let ms = c.loop-index.members in
    let one = c.index-members-index.result in
    let here : c.loop-index.index < length ms = omega arith in
    let e = c.take_ways-ways.ensures in
    record {
      empty = c.give_back-none.ensures.none;
      crew = c.give_back-none.ensures.crew;
      none = more_none of ms c.loop-index.index c.take_ways-ways.new.self _ here
          (ap (λ (u : Shape). u.ways) e.shape.0) c.give_back-none.ensures.ways c.loop-index.invariant.none;
      pushed = λ h.
          c.give_back-none.ensures.pushed h
          ∙ (kept (weight_pushed_by {A = g.row.A.Denot} {S = g.row.S.Denot} {g = g.S.Seats} h) ms c.loop-index.index
          c.take_ways-ways.new.self one here (e.pushed h)
          ∙ c.loop-index.invariant.pushed h);
      taken = λ h.
          c.give_back-none.ensures.taken h
          ∙ (lent (weight_taken_by {A = g.row.A.Denot} {S = g.row.S.Denot} {g = g.S.Seats} h) ms c.loop-index.index
          c.take_ways-ways.new.self one
          (weight_stolen h c.take_ways-ways.result.items) here (e.taken h)
          ∙ c.loop-index.invariant.taken h);
    }

pub returns-clause-home : goal.returns-clause-home
returns-clause-home g c k d here =
    let of : Member g.row.T.Denot g.row.A.Denot g.row.S.Denot g.S.Seats → Shape = shape in
    let ms = c.loop-index.members in
    let own : List (List ℕ) = own_ways (shapes ms) in
    let long : length own ≤ c.loop-index.index =
    omega (arith, length-map ms of, length-map (shapes ms) (λ (u : Shape). u.ways)) in
    let none : All (λ (w : List ℕ). w ≡ []) own =
    subst (All (λ (w : List ℕ). w ≡ [])) (take_all c.loop-index.index own long) c.loop-index.invariant.none in
    let all = all_home of ms c.loop-index.invariant.crew none k d here in (all.0, nil_from_map (λ w. w.to) _ all.1)
