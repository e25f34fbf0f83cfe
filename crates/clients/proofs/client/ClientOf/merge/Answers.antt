use Rattle.std.proofs.Common.{refl}
use Rattle.bin_history.specs.declared.call.Reply.TheVariants.{Value}
use Rattle.clients.proofs.Replies.{stands_as}
use Rattle.clients.proofs.Computing.{told-merge}
use Rattle.clients.proofs.client.ClientOf.merge.Goals as goal

pub returns-clause-answered : goal.returns-clause-answered
returns-clause-answered g c = stands_as g.K.PartialEq.eq g.V.PartialEq.eq g.F.Remap.remapped g.F.Remap.merged
    c.in_ok-value.ensures.answered (λ answer. Value answer.value) _ refl

pub returns-clause-used : goal.returns-clause-used
returns-clause-used g c =
    let (front, r, its, made, found) = c.in_ok-value.ensures.answered.called in
    told-merge g.V.PartialEq.eq g.F.Remap.remapped g.F.Remap.merged _ _ c.in_ok-value.changed c.in_ok-value.value
    front c.in_ok-value.ensures.changed c.args.key c.args.value c.args.function r c.is_none.result c.is_none.ensures made
