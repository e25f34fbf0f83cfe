use Rattle.std.proofs.Common.{◌≡◌, rules}
use Rattle.bin_history.specs.declared.call.Reply.TheVariants.{Value}
use Rattle.clients.proofs.Replies.{stands_for}
use Rattle.clients.proofs.client.ClientOf.remove_as.Goals as goal

pub returns-clause-answered : goal.returns-clause-answered
returns-clause-answered g c =
    let map_is : c.map.result.now ≡ c.args.self.now.map = search rules in
    let pass_is : c.pass_mut.result.now ≡ c.args.self.now.pass = search rules in
    let left = g.met.H.Seat.Seat.pass_is c.self.inside.seat c.remove_as.new.pass in
    rw (left) (stands_for g.K.PartialEq.eq g.V.PartialEq.eq g.F.Remap.remapped g.F.Remap.merged
    (λ r. r) (λ x. Value x) _ _ _ _ _ _ c.in-Value.is (rw (map_is, pass_is) at c.in_ok-value.ensures.answered))
