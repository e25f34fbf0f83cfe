use Rattle.std.proofs.Common.{◌≡◌, ℕ, suc, ◌+◌, List, ◌∷◌, ◌++◌, Some, length, get_or, slice_range, ap, subst, sym, ◌∙◌}
use Rattle.std.proofs.Common.{arith}
use Rattle.std.proofs.lemmas.Bool.{false≢true}
use Rattle.std.proofs.lemmas.List.{length-append}
use Rattle.chm.specs.Headline.{entries_of}
use Rattle.bulk_tasks.specs.Folds.{fold_from, plain_fold}
use Rattle.bulk_tasks.proofs.Folding.{begun, IsFolded-refused}
use Rattle.bulk_tasks.proofs.Ranges.{entries_after_none}
use Rattle.bulk_tasks.proofs.reducing.FoldingCollector.collect.Goals as goal

pub returns-in-Some : goal.returns-in-Some
returns-in-Some g c =
    let reducer = c.args.self.now.reducer.now in
    let lift = g.R.Reducer.lifted reducer in
    let join = g.R.Reducer.joined reducer in
    let within = g.R.Reducer.within reducer in
    let bins = c.args.bins.now in
    let i = c.loop-index.index in
    let first = c.in-Some.field-0.now in
    let others = c.next.new.self in
    let rest = entries_of (slice_range bins (i + 1) (length bins)) in
    let own : first ∷ others ≡ (get_or bins i c.index-bins-index.result).entries
    = sym c.in-Some.ensures.steps ∙ c.walk-walk.ensures ∙ ap (λ b. b.entries) c.index-bins-index.is in
    let all : (first ∷ others) ++ rest ≡ entries_of bins
    = ap (λ (es : List _). es ++ rest) own ∙ entries_after_none bins i c.index-bins-index.result c.loop-index-test.true
    c.loop-index.invariant in
    let value : c.in_ok-begun.begun ≡ fold_from lift join (lift first.0 first.1) others
    = c.in_ok-begun.ensures.fold ∙ ap (λ a. fold_from lift join a others) c.in_ok-lifted.ensures.value in (
      ap Some (c.in_ok-fold_bins_onto.ensures.fold ∙ ap (λ a. fold_from lift join a rest) value)
          ∙ begun lift join first others rest ∙ ap (plain_fold lift join) all,
      let both : suc (length others) + length rest ≡ length (entries_of bins) =
          sym (length-append (first ∷ others) rest) ∙ ap length all in
          let len : (1 + length others) + length rest ≡ length (entries_of bins) = omega (arith, both) in
          subst (λ (m : ℕ). within m c.in_ok-fold_bins_onto.field-0) len
          (c.in_ok-fold_bins_onto.ensures.within (1 + length others)
          (c.in_ok-begun.ensures.within 1 c.in_ok-lifted.ensures.within)),
    )

pub fold_bins_onto-requires : goal.fold_bins_onto-requires
fold_bins_onto-requires g c =
    let bins = c.args.bins.now in
    let i = c.loop-index.index in
    let first = c.in-Some.field-0.now in
    let others = c.next.new.self in
    let rest = entries_of (slice_range bins (i + 1) (length bins)) in
    let own : first ∷ others ≡ (get_or bins i c.index-bins-index.result).entries
    = sym c.in-Some.ensures.steps ∙ c.walk-walk.ensures ∙ ap (λ b. b.entries) c.index-bins-index.is in
    let all : (first ∷ others) ++ rest ≡ entries_of bins
    = ap (λ (es : List _). es ++ rest) own ∙ entries_after_none bins i c.index-bins-index.result c.loop-index-test.true
    c.loop-index.invariant in
    let both : suc (length others) + length rest ≡ length (entries_of bins) = sym (length-append (first ∷ others) rest)
    ∙ ap length all in
    let few = c.requires.few in
    record {
      few = (
        1 + length others,
        c.in_ok-begun.ensures.within 1 c.in_ok-lifted.ensures.within,
        omega (arith, both, few),
      );
    }

pub fold_onto-requires : goal.fold_onto-requires
fold_onto-requires g c =
    let bins = c.args.bins.now in
    let i = c.loop-index.index in
    let first = c.in-Some.field-0.now in
    let others = c.next.new.self in
    let rest = entries_of (slice_range bins (i + 1) (length bins)) in
    let own : first ∷ others ≡ (get_or bins i c.index-bins-index.result).entries
    = sym c.in-Some.ensures.steps ∙ c.walk-walk.ensures ∙ ap (λ b. b.entries) c.index-bins-index.is in
    let all : (first ∷ others) ++ rest ≡ entries_of bins
    = ap (λ (es : List _). es ++ rest) own ∙ entries_after_none bins i c.index-bins-index.result c.loop-index-test.true
    c.loop-index.invariant in
    let both : suc (length others) + length rest ≡ length (entries_of bins) = sym (length-append (first ∷ others) rest)
    ∙ ap length all in
    let few = c.requires.few in
    record { few = (1, c.in_ok-lifted.ensures.within, omega (arith, both, few)) }

pub returns-in_err-fold_bins_onto : goal.returns-in_err-fold_bins_onto
returns-in_err-fold_bins_onto g c =
    let reducer = c.args.self.now.reducer.now in
    IsFolded-refused (g.R.Reducer.lifted reducer) (g.R.Reducer.joined reducer) (g.R.Reducer.within reducer) g.R.Reducer.never_refuses
    (entries_of c.args.bins.now) c.from_residual-in_err-fold_bins_onto.result _ c.from_residual-in_err-fold_bins_onto.ensures.1
    (λ never. false≢true (c.in_err-fold_bins_onto.ensures.total never))
