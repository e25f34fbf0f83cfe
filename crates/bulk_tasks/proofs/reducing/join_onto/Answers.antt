use Rattle.std.proofs.Common.{sym, ◌∙◌}
use Rattle.bulk_tasks.proofs.Folding.{fold_based}
use Rattle.bulk_tasks.proofs.reducing.join_onto.Goals as goal

pub returns-in_ok-join-in-Some-clause-fold : goal.returns-in_ok-join-in-Some-clause-fold
returns-in_ok-join-in-Some-clause-fold g c = λ es h.
    let lift = g.R.Reducer.lifted c.args.reducer.now in
    let join = g.R.Reducer.joined c.args.reducer.now in
    c.in_ok-join-in-Some.ensures.value ∙ fold_based lift join
    (g.met.R.Reducer.associative c.args.reducer.now) c.args.basis c.in-Some.folded es (sym c.in-Some.is ∙ h)
