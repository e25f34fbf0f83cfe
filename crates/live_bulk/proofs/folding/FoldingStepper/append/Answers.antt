use Rattle.std.proofs.Common.{◌≡◌, ℕ, ◌+◌, ◌++◌, length, Some, ap, subst, sym, ◌∙◌, arith}
use Rattle.std.proofs.lemmas.List.{length-append}
use Rattle.bulk_tasks.specs.Folds.{plain_fold}
use Rattle.bulk_tasks.proofs.Folding.{fold_both}
use Rattle.live_bulk.proofs.folding.FoldingStepper.append.Goals as goal

pub returns-clause-reached : goal.returns-clause-reached
returns-clause-reached g c = λ es fs h k.
    let reducer = c.args.self.now.reducer.now in
    let lift = g.R.Reducer.lifted reducer in
    let join = g.R.Reducer.joined reducer in
    let within = g.R.Reducer.within reducer in
    let left = rw c.in_ok-left.was at h in
    let right = rw c.in_ok-right.was at k in
    let first = c.in-Some-mine.first in
    let second = c.in-Some-theirs.second in
    let x : Some first ≡ plain_fold lift join es = sym c.in-Some-mine.is ∙ left.0 in
    let y : Some second ≡ plain_fold lift join fs = sym c.in-Some-theirs.is ∙ right.0 in
    let near : within (length es) first = rw c.in-Some-mine.is at left.1 in
    let far : within (length fs) second = rw c.in-Some-theirs.is at right.1 in
    let both : within (length es + length fs) (join first second)
    = g.met.R.Reducer.joins reducer (length es) (length fs) first second near far in (
      ap Some {y = join first second} c.in_ok-both.ensures.value
          ∙ fold_both lift join (g.met.R.Reducer.associative reducer) first second es fs x y,
      subst (within (length (es ++ fs))) (sym c.in_ok-both.ensures.value)
          (subst (λ (n : ℕ). within n (join first second)) (sym (length-append es fs)) both),
      omega (arith, c.in-Some.ensures, left.2, right.2, length-append es fs),
    )
