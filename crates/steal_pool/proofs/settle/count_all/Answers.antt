use Rattle.std.proofs.Common.{ℕ, ap, arith}
use Rattle.std.proofs.lemmas.List.Sums.{sum_by_more}
use Rattle.steal_pool.specs.declared.member.Member.{Member}
use Rattle.steal_pool.specs.Books.{weight_pushed_by, weight_taken_by}
use Rattle.steal_pool.proofs.settle.count_all.Goals as goal

pub loop-member-preserved : goal.loop-member-preserved
loop-member-preserved g c =
    let pushed : Member g.row.T.Denot g.row.A.Denot g.row.S.Denot g.S.Seats → ℕ = weight_pushed_by (λ _. 1) in
    let taken : Member g.row.T.Denot g.row.A.Denot g.row.S.Denot g.S.Seats → ℕ = weight_taken_by (λ _. 1) in
    let ms = c.args.members.now in
    let one = c.member-item.result in
    let i = c.loop-member.member-index in
    let p = sum_by_more pushed ms i one c.loop-member-test.true in
    let t = sum_by_more taken ms i one c.loop-member-test.true in
    let p' = ap pushed c.member-item.is in
    let t' = ap taken c.member-item.is in
    let mine = one.pushes c.in_ok-member.field-0 c.in_ok-member.was in
    let mine' = one.takes c.in_ok-member-2.field-0 c.in_ok-member-2.was in
    let n = c.in_ok-pushed.ensures in
    let n' = c.in_ok-taken.ensures in
    let before = c.loop-member.invariant in (omega arith, omega arith)
