use Rattle.std.proofs.Common.{◌≡◌, ◌∙◌, sym, ap}
use Rattle.std.proofs.lemmas.Slice.Eq.{bytes_eq-Decides}
use Rattle.std.specs.Fmt.{decimal}
use Rattle.script.proofs.Numbers.{threshold-IsUtf8, threshold-parses}
use Rattle.script.proofs.number.read_threshold.Goals as goal

pub returns-in_default : goal.returns-in_default
returns-in_default c = λ n h. c.in_default.ensures.cases.0 (threshold-IsUtf8 _ n h)

pub returns-in_default-parse : goal.returns-in_default-parse
returns-in_default-parse c = λ n h.
    let parsed = threshold-parses _ _ n _ h c.in-Ok.ensures.cases.0 c.parse.ensures.value.0 in absurd (cc)

pub returns-else-eq : goal.returns-else-eq
returns-else-eq c = λ n h.
    let parsed = threshold-parses _ _ n _ h c.in-Ok.ensures.cases.0 c.parse.ensures.value.0 in
    let same_number : c.in-Ok-parse.threshold ≡ n = cc in
    let same : c.as_bytes.result.now ≡ c.args.word.now = c.as_bytes.ensures.value ∙ c.format.ensures.text
    ∙ ap decimal same_number ∙ sym h.1 in
    let equal = (bytes_eq-Decides c.as_bytes.result.now c.args.word.now).1 same in
    absurd (cc (c.eq.ensures, c.if-eq.false))
