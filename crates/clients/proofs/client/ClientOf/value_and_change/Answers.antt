use Rattle.std.proofs.Common.{refl}
use Rattle.bin_history.specs.declared.call.Reply.TheVariants.{Value}
use Rattle.clients.proofs.Replies.{stands_for}
use Rattle.clients.proofs.Computing.{told-change}
use Rattle.clients.proofs.client.ClientOf.value_and_change.Goals as goal

pub returns-clause-answered : goal.returns-clause-answered
returns-clause-answered g c = stands_for g.K.PartialEq.eq g.V.PartialEq.eq g.F.Remap.remapped g.F.Remap.merged
    (λ x. Value x) (λ answer. Value answer.0) _ _ _ _ _ _ refl
    (rw (c.balance-before.ensures.map, c.balance-before.ensures.same) at (rw (← c.balance.ensures.same) at c.in_ok-value.ensures.answered))

pub returns-clause-changed : goal.returns-clause-changed
returns-clause-changed g c =
    told-change _ _ _ _ c.balance-before.result c.balance.result
    c.balance-before.ensures.same c.balance.ensures.same c.balance-before.type_inv c.balance-before.ensures.sum
    c.balance.ensures.sum
