use Rattle.std.proofs.Common.{◌∙◌}
use Rattle.clients.proofs.Passes.{same_ledger}
use Rattle.clients.proofs.pass_pool.PassPool.take_free.Goals as goal

pub returns-in-Some : goal.returns-in-Some
returns-in-Some g c = same_ledger c.in-Some.pass.client _ c.in-Some.pass.ledger c.args.self.now.ledger.id
    (c.in-Some.ensures ∙ c.in_ok-pass_slot.ensures)
