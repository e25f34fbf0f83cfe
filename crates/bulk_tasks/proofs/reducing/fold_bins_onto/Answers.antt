use Rattle.std.proofs.Common.{◌≡◌, ℕ, ◌+◌, List, ◌++◌, length, get_or, take, ap, subst, sym, ◌∙◌, arith}
use Rattle.std.proofs.lemmas.List.{length-append, take_all}
use Rattle.chm.specs.Headline.{entries_of}
use Rattle.bulk_tasks.specs.Folds.{fold_from}
use Rattle.bulk_tasks.proofs.Folding.{from_both}
use Rattle.bulk_tasks.proofs.Ranges.{entries_more, entries_few}
use Rattle.bulk_tasks.proofs.reducing.fold_bins_onto.Goals as goal

pub fold_onto-requires : goal.fold_onto-requires
fold_onto-requires g c =
    let bins = c.args.bins.now in
    let i = c.loop-bin.bin-index in
    let (n, h, few) = c.requires.few in
    let own : length c.walk.result ≡ length (get_or bins i c.bin-item.result).entries
    = ap length (c.walk.ensures ∙ ap (λ b. b.entries) c.bin-item.is) in
    let all = entries_few bins i c.bin-item.result c.loop-bin-test.true in
    record { few = (n + length (entries_of (take i bins)), c.loop-bin.invariant.1 n h, omega (arith, own, all, few)) }

pub loop-bin-preserved : goal.loop-bin-preserved
loop-bin-preserved g c =
    let reducer = c.args.reducer.now in
    let lift = g.R.Reducer.lifted reducer in
    let join = g.R.Reducer.joined reducer in
    let within = g.R.Reducer.within reducer in
    let bins = c.args.bins.now in
    let i = c.loop-bin.bin-index in
    let before = entries_of (take i bins) in
    let own = c.walk.result in
    let more : before ++ own ≡ entries_of (take (i + 1) bins)
    = ap (λ (es : List _). before ++ es) (c.walk.ensures ∙ ap (λ b. b.entries) c.bin-item.is)
    ∙ entries_more bins i c.bin-item.result c.loop-bin-test.true in (
      c.in_ok-folded.ensures.fold
          ∙ ap (λ a. fold_from lift join a own) c.loop-bin.invariant.0
          ∙ sym (from_both lift join c.args.first before own)
          ∙ ap (fold_from lift join c.args.first) more,
      λ n h.
          let len : length before + length own ≡ length (entries_of (take (i + 1) bins)) =
          sym (length-append before own) ∙ ap length more in
          let all : (n + length before) + length own ≡ n + length (entries_of (take (i + 1) bins)) =
          omega (arith, len) in
          subst (λ (m : ℕ). within m c.in_ok-folded.folded) all
          (c.in_ok-folded.ensures.within (n + length before) (c.loop-bin.invariant.1 n h)),
    )

pub returns-clause-within : goal.returns-clause-within
returns-clause-within g c = λ n h.
    subst (λ (bs : List _). g.R.Reducer.within c.args.reducer.now (n + length (entries_of bs)) c.loop-bin.folded)
    (take_all c.loop-bin.bin-index c.args.bins.now (omega (arith, c.loop-bin-test.false))) (c.loop-bin.invariant.1 n h)
