use Rattle.std.proofs.Common.{◌≡◌, ◌+◌, length, ap, ◌∙◌, arith}
use Rattle.std.specs.Vec.Iter.{into_iter_items}
use Rattle.part_walks.proofs.JoinedParts.{all_joined, both_reached, ended_more, one_more}
use Rattle.part_walks.proofs.joining.join_all.Goals as goal

pub append-joined-requires : goal.append-joined-requires
append-joined-requires g c =
    let (can, finite, kept) = c.loop-part.invariant in
    let (ess, zip) = c.requires.reached in
    both_reached (g.S.Taker.reached c.args.stepper.now) ess (into_iter_items c.loop-part.part-iterator)
    (into_iter_items c.next.new.self) c.in-Some.part c.loop-part.joined c.in-Some.ensures.steps.0 (kept.1 ess zip)

pub loop-part-preserved : goal.loop-part-preserved
loop-part-preserved g c =
    let (can, finite, kept) = c.loop-part.invariant in
    let left = into_iter_items c.loop-part.part-iterator in
    let rest = into_iter_items c.next.new.self in
    let is = c.in-Some.ensures.steps.0 in
    let fewer = c.in-Some.ensures.steps.1 in
    let long : length left ≡ length rest + 1 = ap length is ∙ omega arith in (
      tt,
      tt,
      (
        omega (arith, fewer, long, kept.0),
        λ ess zip. one_more (g.S.Taker.reached c.args.stepper.now) ess left rest c.in-Some.part c.loop-part.joined
            c.append-joined.result is c.append-joined.ensures.reached (kept.1 ess zip),
        λ end. ended_more (g.S.Stepper.ends c.args.stepper.now) left rest c.in-Some.part c.loop-part.joined
            c.append-joined.result is c.append-joined.ensures.left c.append-joined.ensures.right (kept.2 end),
      ),
    )

pub returns-clause-reached : goal.returns-clause-reached
returns-clause-reached g c = λ ess zip.
    let (can, finite, kept) = c.loop-part.invariant in
    let none = c.in-None.ensures.steps.0 in
    all_joined (g.S.Taker.reached c.args.stepper.now) ess (into_iter_items c.loop-part.part-iterator) c.loop-part.joined
    (omega (arith, none, kept.0)) (kept.1 ess zip)
