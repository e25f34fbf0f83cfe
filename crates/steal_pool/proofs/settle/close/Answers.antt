use Rattle.std.proofs.Common.{◌≡◌, ℕ, ◌+◌, List, drop, length, sum_by, ap, subst, ◌∙◌, arith}
use Rattle.std.proofs.lemmas.List.{take_at}
use Rattle.steal_pool.specs.declared.member.Member.{Member}
use Rattle.steal_pool.specs.Books.{weight_pushed_by, weight_taken_by, AreCounted}
use Rattle.steal_pool.specs.Logs.{weigh}
use Rattle.std.specs.Prelude.{IfSome}
use Rattle.steal_pool.proofs.Settling.{told_settled}
use Rattle.steal_pool.proofs.settle.close.Goals as goal

pub returns-clause-books : goal.returns-clause-books
returns-clause-books g c =
    let s = c.settle_all-left.ensures in
    let new = c.give_all_back.new.members in
    let long : length new ≡ c.args.members.len = omega arith in
    let back = take_at new (drop (length new) c.args.members.items) c.args.members.len long in (
      s.0,
      s.1,
      λ h.
          let pushed : Member g.row.T.Denot g.row.A.Denot g.row.S.Denot g.S.Seats → ℕ = weight_pushed_by h in
          let taken : Member g.row.T.Denot g.row.A.Denot g.row.S.Denot g.S.Seats → ℕ = weight_taken_by h in
          let p : sum_by pushed c.give_all_back.new.members ≡ sum_by pushed c.args.members.items =
          c.give_all_back.ensures.pushed h ∙ ap (sum_by pushed) c.as_mut_slice.ensures.value in
          let t : sum_by taken c.give_all_back.new.members ≡ sum_by taken c.args.members.items =
          c.give_all_back.ensures.taken h ∙ ap (sum_by taken) c.as_mut_slice.ensures.value in
          let all : sum_by pushed c.give_all_back.new.members ≡ sum_by taken c.give_all_back.new.members + weigh h s.0 =
          rw back at (s.2 h) in omega arith,
    )

pub returns-clause-settled : goal.returns-clause-settled
returns-clause-settled g c =
    let ms : List (Member g.row.T.Denot g.row.A.Denot g.row.S.Denot g.S.Seats) = c.args.members.items in
    told_settled ms c.settle_all-left.result c.count_all-counted.result c.told.result
    (subst (λ (l : List (Member g.row.T.Denot g.row.A.Denot g.row.S.Denot g.S.Seats)). IfSome c.count_all-counted.result
    (AreCounted l)) c.as_slice.ensures.value c.count_all-counted.ensures)
    (returns-clause-books g c) c.told.ensures.same c.told.ensures.none_left
