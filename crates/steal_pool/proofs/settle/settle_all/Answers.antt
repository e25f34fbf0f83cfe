use Rattle.std.proofs.Common.{rules, ◌++◌, arith}
use Rattle.std.proofs.lemmas.List.{length-append}
use Rattle.std.proofs.lemmas.List.Elements.{All-pop}
use Rattle.std.specs.Prelude.{Some}
use Rattle.steal_pool.specs.Shapes.{IsHome}
use Rattle.steal_pool.specs.Books.{weight_pushed_by, weight_taken_by}
use Rattle.steal_pool.proofs.Moves.{weigh_append}
use Rattle.steal_pool.proofs.Sums.{settled}
use Rattle.steal_pool.proofs.settle.settle_all.Goals as goal

pub loop-member-preserved : goal.loop-member-preserved
loop-member-preserved g c =
    let i = c.loop-member.invariant.books in
    let s = c.settle-more.ensures in
    record {
      home = (All-pop (IsHome {T = g.row.T.Denot} {A = g.row.A.Denot} {S = g.row.S.Denot} {g = g.S.Seats}) c.loop-member.members.items
          c.pop.new.self.items
          (Some c.in-Some.member) c.in-Some.ensures.items c.loop-member.invariant.home).0;
      small = omega (arith, c.in-Some.ensures.len);
      books = (
        i.0 ++ s.0,
        search (rules, length-append),
        λ h.
            let w = weigh_append h i.0 s.0 in
            let l = settled (weight_pushed_by {A = g.row.A.Denot} {S = g.row.S.Denot} {g = g.S.Seats} h)
            (weight_taken_by {A = g.row.A.Denot} {S = g.row.S.Denot} {g = g.S.Seats} h) _ _ _ _ _ _ _ c.in-Some.ensures.items (s.2 h)
            (i.2 h) in omega arith,
      );
    }
