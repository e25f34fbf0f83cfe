use Rattle.std.proofs.Common.{◌≡◌, ℕ, ◌<◌, ◌≤◌, inl, inr, ap, arith}
use Rattle.std.proofs.lemmas.Bool.{cases_lt}
use Rattle.hashkeys.proofs.Halves.{IsTableSize-double}
use Rattle.chm.specs.Sizes.{most_bins_of, threshold, IsWideEnough}
use Rattle.chm.proofs.Sizes.{IsTableSize-wider, most_bins_few}
use Rattle.chm.proofs.resize.size.size_from.Goals as goal

pub loop-n-preserved : goal.loop-n-preserved
loop-n-preserved c =
    let form = c.args.form in
    let (size, from, least) = c.loop-n.invariant in
    let narrow : c.loop-n.n < most_bins_of form = (let a = c.loop-n-test.true in let b = c.most_bins.ensures in omega arith) in
    let full : threshold form c.loop-n.n ≤ c.args.count = (let a = c.if-count-from.true in let b = c.from.ensures in
    let d = c.threshold.ensures in omega arith) in
    let double = IsTableSize-double c.loop-n.n (omega (arith, most_bins_few form)) size in
    let past : (m : ℕ) → IsWideEnough form c.args.count m → c.loop-n.n ≤ m → c.loop-n.n < m =
    λ m room le. elim (cases_lt c.loop-n.n m) [
      | inl lt ↦ lt
      | inr ge ↦ elim room [
        | inl few ↦ let same : threshold form m ≡ threshold form c.loop-n.n = ap (threshold form) (omega arith) in absurd (omega arith)
        | inr most ↦ absurd (omega arith)
      ]
    ]
    in (
      (double.0, double.1, let is = double.2 in omega arith),
      omega arith,
      λ m s low room. let wider = IsTableSize-wider c.loop-n.n m size s (past m room (least m s low room)) in
          omega arith,
    )
