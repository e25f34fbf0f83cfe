use Rattle.std.proofs.Common.{refl}
use Rattle.bin_history.specs.declared.call.Reply.TheVariants.{Value}
use Rattle.clients.proofs.Replies.{stands_as}
use Rattle.clients.proofs.Computing.{told-present}
use Rattle.clients.proofs.client.ClientOf.compute_if_present.Goals as goal

pub returns-clause-answered : goal.returns-clause-answered
returns-clause-answered g c = stands_as g.K.PartialEq.eq g.V.PartialEq.eq g.F.Remap.remapped g.F.Remap.merged
    c.in_ok-value.ensures.answered (λ answer. Value answer.value) _ refl

pub returns-clause-used : goal.returns-clause-used
returns-clause-used g c =
    let (front, r, its, made, found) = c.in_ok-value.ensures.answered.called in
    told-present g.V.PartialEq.eq g.F.Remap.remapped g.F.Remap.merged _ _ c.in_ok-value.changed c.in_ok-value.value
    front c.in_ok-value.ensures.changed c.args.key.now c.args.function r c.is_some.result c.is_some.ensures made
