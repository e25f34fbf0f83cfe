use Rattle.std.proofs.Common.{length, ap, sym, ◌∙◌}
use Rattle.chm.specs.Headline.{entries_of}
use Rattle.bulk_tasks.specs.Folds.{fold_from}
use Rattle.bulk_tasks.proofs.Folding.{few_with_basis}
use Rattle.bulk_tasks.proofs.operations.Bulk.reduce_based.Goals as goal

pub returns-clause-order : goal.returns-clause-order
returns-clause-order g c = λ es p.
    c.in_ok-join_onto.ensures.fold es
    (c.in_ok-folded.ensures.collected.0 ∙ sym (c.any_order.ensures (entries_of c.args.self.now.quiet.now.bins) es p))
    ∙ ap (λ b. fold_from (g.R.Reducer.lifted c.args.reducer.now) (g.R.Reducer.joined c.args.reducer.now) b es)
    c.in_ok-basis.ensures.value

pub join_onto-requires : goal.join_onto-requires
join_onto-requires g c =
    record {
      few = few_with_basis (g.R.Reducer.within c.args.reducer.now) c.in_ok-basis.basis
          (length (entries_of c.args.self.now.quiet.now.bins))
          c.in_ok-folded.folded c.in_ok-folded.ensures.few c.in_ok-basis.ensures.within
          c.in_ok-folded.ensures.collected.1;
    }
