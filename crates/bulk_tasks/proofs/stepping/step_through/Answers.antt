use Rattle.std.proofs.Common.{List, subst, drop, take, ap, ◌++◌, ◌∙◌}
use Rattle.chm.specs.Headline.{entries_of}
use Rattle.bulk_tasks.proofs.Ranges.{entries_rest, entries_more}
use Rattle.bulk_tasks.proofs.stepping.step_through.Goals as goal

pub returns-then-is_settled : goal.returns-then-is_settled
returns-then-is_settled g c =
    let P : List (g.row.K.Denot × g.row.V.Denot)
    → Type 0 = λ es. g.S.Stepper.reached c.args.stepper.now es c.look_again-part.result in
    subst P (entries_rest c.args.bins.now c.loop-bin.bin-index)
    (c.is_settled.ensures c.if-is_settled.true (entries_of (take c.loop-bin.bin-index c.args.bins.now))
    (entries_of (drop c.loop-bin.bin-index c.args.bins.now))
    (c.look_again-part.ensures (entries_of (take c.loop-bin.bin-index c.args.bins.now)) c.loop-bin.invariant))

pub loop-bin-preserved : goal.loop-bin-preserved
loop-bin-preserved g c =
    let P : List (g.row.K.Denot × g.row.V.Denot) → Type 0 =
    λ es. g.S.Stepper.reached c.args.stepper.now es c.add_all-part.result in
    let here = ap (λ b. b.entries) c.bin-item.is in
    let before = entries_of (take c.loop-bin.bin-index c.args.bins.now) in
    subst P (ap (λ es. before ++ es) (c.walk.ensures ∙ here)
    ∙ entries_more c.args.bins.now c.loop-bin.bin-index c.bin-item.result c.loop-bin-test.true)
    (c.add_all-part.ensures before (c.look_again-part.ensures before c.loop-bin.invariant))
