use Rattle.std.proofs.Common.{◌≡◌, ℕ, ◌≤◌, [], List, drop, length, sym, ap, ◌∙◌, arith, length-drop}
use Rattle.std.proofs.lemmas.List.{drop-drop, drop_all}
use Rattle.chm.proofs.walks.asking.left_behind.Goals as goal

pub loop-place-preserved : goal.loop-place-preserved
loop-place-preserved g c =
    sym (drop-drop 1 c.loop-place._place c.args.walk)
    ∙ ap (λ (l : List _). drop 1 l) (c.loop-place.invariant ∙ c.in-Some.ensures.steps)

pub returns-in_default : goal.returns-in_default
returns-in_default g c =
    let none : c.loop-place.left ≡ [] = c.in_default.ensures.steps.0 in
    let short = length-drop c.loop-place._place c.args.walk in
    let here : length (drop c.loop-place._place c.args.walk) ≡ 0 =
    ap (λ (l : List _). length l) (c.loop-place.invariant ∙ none) in
    let all : length c.args.walk ≤ c.args.past = omega (arith, short, here) in
    c.in_default.ensures.steps.1 ∙ sym (drop_all c.args.past c.args.walk all)
