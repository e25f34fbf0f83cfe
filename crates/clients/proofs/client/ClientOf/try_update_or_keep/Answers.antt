use Rattle.std.proofs.Common.{◌≡◌, rules}
use Rattle.clients.proofs.client.ClientOf.try_update_or_keep.Goals as goal

pub returns-clause-made : goal.returns-clause-made
returns-clause-made g c =
    let map_is : c.map.result.now ≡ c.args.self.now.map = search rules in
    let pass_is : c.pass_mut.result.now ≡ c.args.self.now.pass = search rules in
    let left = g.met.H.Seat.Seat.pass_is c.self.inside.seat c.try_update_or_keep.new.pass in
    rw (left) (rw (map_is, pass_is) at c.try_update_or_keep.ensures.made)
