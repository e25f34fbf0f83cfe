use Rattle.std.proofs.Common.{refl, subst, ap, ◌∙◌, arith}
use Rattle.std.specs.Str.Parse.{AllDigits, digits_value}
use Rattle.std.proofs.lemmas.Int.Digits.{digits_more, digits_value_more}
use Rattle.std.proofs.lemmas.Str.{digit_value_digit}
use Rattle.std.proofs.lemmas.Str.Parse.{digit_at}
use Rattle.std.proofs.lemmas.List.{take_all}
use Rattle.script.proofs.Numbers.{front_is_small}
use Rattle.script.proofs.number.value_of.Goals as goal

pub loop-byte-init : goal.loop-byte-init
loop-byte-init c = record { digits = tt; value = refl }

pub returns-then-not-is_ascii_digit : goal.returns-then-not-is_ascii_digit
returns-then-not-is_ascii_digit c = λ all.
    let range = digit_at c.args.digits.now c.loop-byte.byte-index all c.loop-byte-test.true in
    let none = c.if-not-is_ascii_digit.ensures.cases in
    omega (arith, range, none)

pub overflow_mul-value : goal.overflow_mul-value
overflow_mul-value c =
    let small = front_is_small c.args.digits.now c.loop-byte.byte-index c.requires c.loop-byte-test.true
    c.loop-byte.invariant.digits in
    omega (arith, small, c.loop-byte.invariant.value)

pub overflow_add-value : goal.overflow_add-value
overflow_add-value c =
    let small = front_is_small c.args.digits.now c.loop-byte.byte-index c.requires c.loop-byte-test.true
    c.loop-byte.invariant.digits in
    let range = c.if-not-is_ascii_digit.ensures.cases in
    omega (arith, small, c.loop-byte.invariant.value, range, c.from.ensures)

pub loop-byte-preserved : goal.loop-byte-preserved
loop-byte-preserved c =
    let ds = c.args.digits.now in
    let i = c.loop-byte.byte-index in
    let digit = c.if-not-is_ascii_digit.ensures.bound in
    let is = digit_value_digit _ c.if-not-is_ascii_digit.ensures.cases in
    record {
      digits = digits_more 10 ds i c.loop-byte-test.true c.loop-byte.invariant.digits digit;
      value = omega (
        arith,
        digits_value_more 10 ds i c.loop-byte-test.true,
        c.loop-byte.invariant.value,
        is,
        c.from.ensures,
      );
    }

pub returns : goal.returns
returns c =
    let whole = take_all c.loop-byte.byte-index c.args.digits.now (omega (arith, c.loop-byte-test.false)) in
    (subst (AllDigits 10) whole c.loop-byte.invariant.digits, c.loop-byte.invariant.value ∙ ap (digits_value 10) whole)
