use Rattle.std.proofs.Common.{◌≤◌, Vec, length, sym, subst, arith}
use Rattle.script.specs.Grammar.{ScriptCall}
use Rattle.mapcli_core.proofs.Seats.{IsShort-at}
use Rattle.mapcli_core.proofs.client.BlocksSharingKeyI64Function.work.Goals as goal

pub make_calls-requires-clause-short : goal.make_calls-requires-clause-short
make_calls-requires-clause-short g c =
    subst (λ (b : Vec ScriptCall _). length b.items ≤ 1000000) (sym c.index.ensures)
    (IsShort-at c.args.self.now.blocks.now c.args.self.now.short c.client-client.result c.index.result.now (omega arith))
