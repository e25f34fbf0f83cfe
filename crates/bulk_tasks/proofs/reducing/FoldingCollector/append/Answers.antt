use Rattle.std.proofs.Common.{◌≡◌, ℕ, ◌+◌, ◌++◌, length, Some, ap, subst, sym, ◌∙◌}
use Rattle.std.proofs.lemmas.List.{length-append}
use Rattle.bulk_tasks.specs.Folds.{plain_fold}
use Rattle.bulk_tasks.proofs.Folding.{fold_both}
use Rattle.bulk_tasks.proofs.reducing.FoldingCollector.append.Goals as goal

pub returns-in_ok-join-in-Some-right : goal.returns-in_ok-join-in-Some-right
returns-in_ok-join-in-Some-right g c = λ es fs h k.
    let reducer = c.args.self.now.reducer.now in
    let lift = g.R.Reducer.lifted reducer in
    let join = g.R.Reducer.joined reducer in
    let within = g.R.Reducer.within reducer in
    let left = rw c.in_ok-left.was at h in
    let right = rw c.in_ok-right.was at k in
    let x : Some c.in-Some.first ≡ plain_fold lift join es = sym c.in-Some.is ∙ left.0 in
    let y : Some c.in-Some-right.second ≡ plain_fold lift join fs = sym c.in-Some-right.is ∙ right.0 in
    let near : within (length es) c.in-Some.first = rw c.in-Some.is at left.1 in
    let far : within (length fs) c.in-Some-right.second = rw c.in-Some-right.is at right.1 in
    let both : within (length es + length fs) (join c.in-Some.first c.in-Some-right.second)
    = g.met.R.Reducer.joins reducer (length es) (length fs) c.in-Some.first c.in-Some-right.second near far in (
      ap Some {y = join c.in-Some.first c.in-Some-right.second} c.in_ok-join-in-Some-right.ensures.value
          ∙ fold_both lift join (g.met.R.Reducer.associative reducer) c.in-Some.first c.in-Some-right.second es fs x y,
      subst (within (length (es ++ fs))) (sym c.in_ok-join-in-Some-right.ensures.value)
          (subst (λ (n : ℕ). within n (join c.in-Some.first c.in-Some-right.second)) (sym (length-append es fs)) both),
    )
