use Rattle.std.proofs.Common.{◌≡◌, ℕ, ◌+◌, ◌++◌, ◌∷◌, [], List, length, ap, subst, sym, ◌∙◌, append_assoc, arith}
use Rattle.std.proofs.lemmas.List.{length-append}
use Rattle.bulk_tasks.specs.Folds.{fold_from}
use Rattle.bulk_tasks.proofs.Folding.{from_both}
use Rattle.bulk_tasks.proofs.reducing.fold_onto.Goals as goal

pub loop-key-init : goal.loop-key-init
loop-key-init g c = (
  tt,
  tt,
  (
    [],
    c.into_iter-key-iterator.ensures.into_iter_gives,
    search,
    λ n h. subst (λ (m : ℕ). g.R.Reducer.within c.args.reducer.now m c.args.first) (omega arith) h,
  ),
)

pub loop-key-preserved : goal.loop-key-preserved
loop-key-preserved g c =
    let reducer = c.args.reducer.now in
    let lift = g.R.Reducer.lifted reducer in
    let join = g.R.Reducer.joined reducer in
    let within = g.R.Reducer.within reducer in
    let (can, finite, kept) = c.loop-key.invariant in
    let (done, cut, value, bound) = kept in
    let e = c.in-Some.field-0.now in
    let longer = length-append done (e ∷ []) in (
      tt,
      tt,
      (
        done ++ e ∷ [],
        append_assoc done (e ∷ []) c.next.new.self ∙ ap (λ (l : List _). done ++ l) (sym c.in-Some.ensures.steps) ∙ cut,
        c.in_ok-folded.ensures.value
            ∙ ap (λ a. join a c.in_ok-lifted.lifted) value
            ∙ ap (join (fold_from lift join c.args.first done)) c.in_ok-lifted.ensures.value
            ∙ sym (from_both lift join c.args.first done (e ∷ [])),
        λ n h.
            let both : within ((n + length done) + 1) (join c.loop-key.folded c.in_ok-lifted.lifted)
            = g.met.R.Reducer.joins reducer (n + length done) 1 c.loop-key.folded c.in_ok-lifted.lifted (bound n h)
            c.in_ok-lifted.ensures.within in
            let more : (n + length done) + 1 ≡ n + length (done ++ e ∷ []) = omega (arith, longer) in
            subst (within (n + length (done ++ e ∷ []))) (sym c.in_ok-folded.ensures.value)
            (subst (λ (m : ℕ). within m (join c.loop-key.folded c.in_ok-lifted.lifted)) more both),
      ),
    )
