use Rattle.std.proofs.Common.{◌+◌, ◌/◌, ◌^◌, ◌≤◌, ◌∙◌, sym, ap, subst, arith}
use Rattle.std.proofs.lemmas.Nat.{pow_pos}
use Rattle.hashkeys.specs.Classes.{ClassView, IsTableSize}
use Rattle.bin_layout.proofs.Walks.{halved, IsFirstAfter-opening, IsLastInWalk-opening, after_low, after_high}
use Rattle.bin_layout.proofs.Walks.{at_least, IsFirstAfter-high, IsLastInWalk-high}
use Rattle.bin_layout.proofs.walk.+next_in_walk.Goals as goal

pub returns-then-index-n-clause-next : goal.returns-then-index-n-clause-next
returns-then-index-n-clause-next t c =
    let index = c.index-index.ensures in
    let less = c.if-index-n.true in
    IsFirstAfter-opening c.args.n c.args.class c.new.result (sym c.n.ensures.value ∙ c.if-n.true) (omega arith)
    (ap (λ (x : ClassView). x.index) c.new.ensures ∙ ap (λ x. x + 1) index)

pub returns-else-index-n-clause-last : goal.returns-else-index-n-clause-last
returns-else-index-n-clause-last t c =
    let index = c.index-index.ensures in
    let below = c.n.ensures.class.1 in
    let size = c.n.ensures.value in
    let same = c.if-n.true in
    let no_less = c.if-index-n.false in
    IsLastInWalk-opening c.args.n c.args.class (sym size ∙ same) (omega arith)

pub new-requires-else-index-half : goal.new-requires-else-index-half
new-requires-else-index-half t c =
    let value = c.n.ensures.value in
    let size = c.n-half.ensures.value in
    let (k, half, even, is_size) = halved c.args.n c.args.class.n c.requires.size c.n.ensures.class.0 c.requires.least
    (λ e. c.if-n.false (value ∙ e)) in
    let index = c.index-index.ensures in
    let below = c.n.ensures.class.1 in
    let high = c.if-index-half.false in
    (subst (λ x. IsTableSize (x / 2)) (sym size) is_size, omega arith)

pub returns-then-index-half-clause-next : goal.returns-then-index-half-clause-next
returns-then-index-half-clause-next t c =
    let value = c.n.ensures.value in
    let size = c.n-half.ensures.value in
    let index = c.index-index.ensures in
    let low = c.if-index-half.true in
    let at = ap (λ (x : ClassView). x.index) c.new-then-index-half.ensures in
    after_low c.args.n c.args.class c.new-then-index-half.result c.requires.size c.n.ensures.class c.requires.least
    (λ e. c.if-n.false (value ∙ e))
    (omega arith) (omega arith)

pub returns-else-index-half-clause-next : goal.returns-else-index-half-clause-next
returns-else-index-half-clause-next t c =
    let value = c.n.ensures.value in
    let size = c.n-half.ensures.value in
    let index = c.index-index.ensures in
    let high = c.if-index-half.false in
    let n_is = ap (λ (x : ClassView). x.n) c.new-else-index-half.ensures in
    let at = ap (λ (x : ClassView). x.index) c.new-else-index-half.ensures in
    IsFirstAfter-high c.args.n c.new-else-index-half.result c.args.class
    (after_high c.args.n c.new-else-index-half.result c.args.class c.requires.size c.n.ensures.class c.requires.least
    (λ e. c.if-n.false (value ∙ e))
    (omega arith) (n_is ∙ ap (λ x. x / 2) size) (omega arith))
    _ c.next_in_walk.ensures.next

pub returns-else-index-half-clause-last : goal.returns-else-index-half-clause-last
returns-else-index-half-clause-last t c =
    let value = c.n.ensures.value in
    let size = c.n-half.ensures.value in
    let index = c.index-index.ensures in
    let high = c.if-index-half.false in
    let n_is = ap (λ (x : ClassView). x.n) c.new-else-index-half.ensures in
    let at = ap (λ (x : ClassView). x.index) c.new-else-index-half.ensures in
    IsLastInWalk-high c.args.n c.new-else-index-half.result c.args.class
    (after_high c.args.n c.new-else-index-half.result c.args.class c.requires.size c.n.ensures.class c.requires.least
    (λ e. c.if-n.false (value ∙ e))
    (omega arith) (n_is ∙ ap (λ x. x / 2) size) (omega arith))
    _ c.next_in_walk.ensures.last

pub next_in_walk-requires : goal.next_in_walk-requires
next_in_walk-requires t c =
    let value = c.n.ensures.value in
    let size = c.n-half.ensures.value in
    let (k, half, even, is_size) = halved c.args.n c.args.class.n c.requires.size c.n.ensures.class.0 c.requires.least
    (λ e. c.if-n.false (value ∙ e)) in
    let n_is = ap (λ (x : ClassView). x.n) c.new-else-index-half.ensures in
    let some = c.n.ensures.class.1 in
    let twos = pow_pos k in
    let least : c.args.n ≤ c.args.class.n / 2 = subst (λ x. c.args.n ≤ x) (sym half) (at_least c.args.n (2 ^ k) twos) in
    (omega (arith, c.decreases), (c.requires.size, omega arith))
