use Rattle.std.proofs.Common.{ℕ, ◌+◌, ◌*◌, ◌/◌, inl, inr, subst}
use Rattle.bin_history.specs.Calls.{after}
use Rattle.bin_history.proofs.Keys.{key_tells}
use Rattle.chm.specs.Visits.{classes_of_visits}
use Rattle.chm.proofs.Visiting.{AreVisited-seen}
use Rattle.part_walks.specs.Parts.{IsWalkFrom}
use Rattle.live_bulk.proofs.working.work.Goals as goal

pub returns : goal.returns
returns g c =
    let (visits, visited, come, whole) = c.visit_share.ensures in
    let share = c.share_of-share.result in
    let classes = classes_of_visits visits in
    let n = c.args.job.now.n in
    let shares = c.args.job.now.shares in
    let first : ℕ = c.args.number * n / shares in
    let next : ℕ = (c.args.number + 1) * n / shares in
    record {
      visits = visits;
      visited = visited;
      seen = AreVisited-seen g.K.PartialEq.eq (after g.V.PartialEq.eq g.F.Remap.remapped g.F.Remap.merged)
          c.args.map.now.ledger (key_tells g.met.K.Eq.laws g.met.K.HashKey.equal_is_same) g.K.HashKey.code
          c.args.seat.now.pass c.visit_share.new.pass visits visited;
      collected = (
        come,
        elim whole [
          | inl e ↦ inl e
          | inr walk ↦ inr (subst (λ (x : ℕ). IsWalkFrom x first next classes) c.share_of-share.ensures.n
              (subst (λ (x : ℕ). IsWalkFrom share.n x next classes) c.share_of-share.ensures.lo
              (subst (λ (x : ℕ). IsWalkFrom share.n share.lo x classes) c.share_of-share.ensures.hi walk)))
        ],
      );
    }
