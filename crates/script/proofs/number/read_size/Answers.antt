use Rattle.std.proofs.Common.{◌≡◌, ℕ, List, length, slice_index, sym, ap, ◌∙◌, arith}
use Rattle.script.proofs.Numbers.{decimal_some, decimal_short, decimal_leads, size_from_value}
use Rattle.script.proofs.number.read_size.Goals.{else-length-gt1-via-then-length-gt1+else-word-eq48}
use Rattle.script.proofs.number.read_size.Goals.{else-length-gt1-via-else-length-gt1}
use Rattle.script.proofs.number.read_size.Goals as goal

pub returns-then-length-lt1 : goal.returns-then-length-lt1
returns-then-length-lt1 c = λ n h e. omega (arith, decimal_some n h, ap length e)

pub returns-then-length-gt19 : goal.returns-then-length-gt19
returns-then-length-gt19 c = λ n h e. omega (arith, decimal_short n h, ap length e)

pub returns-then-word-eq48 : goal.returns-then-word-eq48
returns-then-word-eq48 c = λ n h e.
    let lead = ap (λ (w : List ℕ). slice_index w 0) (sym e) ∙ c.if-word-eq48.true in
    omega (arith, c.if-length-gt1.true, ap length e, decimal_leads n h lead)

pub returns : goal.returns
returns c =
    let lead : slice_index c.args.word.now 0 ≡ 48 → length c.args.word.now ≡ 1 = λ zero.
    elim c.else-length-gt1.branch [
      | else-length-gt1-via-then-length-gt1+else-word-eq48 w ↦ absurd (w.if-word-eq48.false zero)
      | else-length-gt1-via-else-length-gt1 w ↦ omega (arith, w.if-length-gt1.false, c.if-length-lt1.false)
    ]
    in
    size_from_value c.args.word.now c.value_of.result (omega arith) (omega arith) lead c.value_of.ensures
