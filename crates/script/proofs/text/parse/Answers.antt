use Rattle.std.proofs.Common.{sym, ap, ◌∙◌, arith}
use Rattle.script.specs.Reading.{start}
use Rattle.script.specs.Drafts.{section_of}
use Rattle.script.proofs.Readings.{HasVerdictFrom-within}
use Rattle.script.proofs.Steps.{BeginsWith-shorter, some_left, none_left, so_far-more, told-bad, told-cut, told-missing}
use Rattle.script.proofs.Steps.{told-whole, not_queries-start}
use Rattle.script.proofs.Steps.{not_queries-calls}
use Rattle.script.proofs.text.parse.Goals as goal

pub returns-in_default-clause-fault : goal.returns-in_default-clause-fault
returns-in_default-clause-fault g c =
    let some = some_left c.lines.rest.now (sym c.is_empty.ensures ∙ c.lines-test.true) in
    let none = c.in_default.ensures in
    told-cut c.args.text.now c.lines.draft c.lines.number _ c.lines.invariant.so_far some none

pub returns-in-Err-clause-fault : goal.returns-in-Err-clause-fault
returns-in-Err-clause-fault g c =
    let begins = c.in-Some.ensures in
    rw c.at.ensures (told-bad c.args.text.now c.lines.draft c.lines.number _ c.lines.invariant.so_far _ _ c.in-Err.error
    begins c.in-Err.ensures.err)

pub lines-preserved : goal.lines-preserved
lines-preserved g c =
    let begins = c.in-Some.ensures in
    let (said, is, leads) = c.in-Ok.ensures.ok in
    let shorter = BeginsWith-shorter _ _ _ begins in
    record {
      so_far = so_far-more c.args.text.now c.lines.draft c.lines.number _ c.lines.invariant.so_far _ _ _ said
          begins is leads;
      counted = omega (arith, shorter, c.lines.invariant.counted);
    }

pub returns-in-Queries-clause-script : goal.returns-in-Queries-clause-script
returns-in-Queries-clause-script g c =
    let ended = none_left c.lines.rest.now (sym c.is_empty.ensures ∙ c.lines-test.false) in
    told-whole c.args.text.now c.lines.draft c.lines.number _ c.lines.invariant.so_far _ _ ended
    (ap section_of c.in-Queries.is)

pub returns-in-Queries-clause-limits : goal.returns-in-Queries-clause-limits
returns-in-Queries-clause-limits g c =
    let ended = none_left c.lines.rest.now (sym c.is_empty.ensures ∙ c.lines-test.false) in
    let just = told-whole c.args.text.now c.lines.draft c.lines.number _ c.lines.invariant.so_far _ _ ended
    (ap section_of c.in-Queries.is) in
    HasVerdictFrom-within start 1 c.args.text.now _ just.holds tt

pub returns-in-Start-clause-fault : goal.returns-in-Start-clause-fault
returns-in-Start-clause-fault g c =
    let ended = none_left c.lines.rest.now (sym c.is_empty.ensures ∙ c.lines-test.false) in
    rw c.missing_at.ensures (told-missing c.args.text.now c.lines.draft c.lines.number _ c.lines.invariant.so_far ended
    (not_queries-start c.lines.draft c.in-Start.is))

pub returns-clause-fault : goal.returns-clause-fault
returns-clause-fault g c =
    let ended = none_left c.lines.rest.now (sym c.is_empty.ensures ∙ c.lines-test.false) in
    rw c.missing_at-in-Calls.ensures
    (told-missing c.args.text.now c.lines.draft c.lines.number _ c.lines.invariant.so_far ended
    (not_queries-calls c.lines.draft _ _ c.in-Calls.is))
