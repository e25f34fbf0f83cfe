use Rattle.std.proofs.Common.{refl, arith}
use Rattle.script.specs.Reading.{next_call}
use Rattle.script.proofs.Steps.{Leads-to_calls}
use Rattle.script.proofs.draft.push_call.Goals as goal

pub returns-clause-ok : goal.returns-clause-ok
returns-clause-ok g c = λ blocks. Leads-to_calls _ _ blocks blocks _ _ refl c.in_ok-push.ensures.items
    (next_call blocks _ c.args.call (omega arith))
