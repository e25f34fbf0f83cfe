use Rattle.std.proofs.Common.{suc, sym, arith}
use Rattle.script.proofs.Numbers.{below_zero, not_below_zero, same_size}
use Rattle.script.proofs.number.read_number.Goals as goal

pub returns-in_err-size : goal.returns-in_err-size
returns-in_err-size c =
    rw c.from_residual.ensures (λ n is.
    let (k, few, same) = below_zero c.args.word.now n (sym c.if-starts_with.ensures.value) is in
    c.in_err-size.ensures (suc k) (omega (arith, few)) same)

pub returns-then-size-lt1 : goal.returns-then-size-lt1
returns-then-size-lt1 c = λ n is.
    let (k, few, same) = below_zero c.args.word.now n (sym c.if-starts_with.ensures.value) is in
    let equal = same_size _ _ _ c.in_ok-size.ensures.0 (omega (arith, few)) c.in_ok-size.ensures.1 same in
    omega (arith, equal, c.if-size-lt1.true)

pub returns-then-size-gt-BELOW_ZERO : goal.returns-then-size-gt-BELOW_ZERO
returns-then-size-gt-BELOW_ZERO c = λ n is.
    let (k, few, same) = below_zero c.args.word.now n (sym c.if-starts_with.ensures.value) is in
    let equal = same_size _ _ _ c.in_ok-size.ensures.0 (omega (arith, few)) c.in_ok-size.ensures.1 same in
    omega (arith, equal, few, c.if-size-gt-BELOW_ZERO.true)

pub returns-then-size-ge-BELOW_ZERO : goal.returns-then-size-ge-BELOW_ZERO
returns-then-size-ge-BELOW_ZERO c = λ n is.
    let (k, few, same) = not_below_zero c.args.word.now n (sym c.if-starts_with.ensures.value) is in
    let equal = same_size _ _ _ c.in_ok-size-2.ensures.0 (omega (arith, few)) c.in_ok-size-2.ensures.1 same in
    omega (arith, equal, few, c.if-size-ge-BELOW_ZERO.true)
