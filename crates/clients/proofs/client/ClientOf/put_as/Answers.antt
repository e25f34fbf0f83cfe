use Rattle.std.proofs.Common.{◌≡◌, rules}
use Rattle.clients.proofs.client.ClientOf.put_as.Goals as goal

pub returns-clause-made : goal.returns-clause-made
returns-clause-made g c =
    let map_is : c.map.result.now ≡ c.args.self.now.map = search rules in
    let pass_is : c.pass_mut.result.now ≡ c.args.self.now.pass = search rules in
    let left = g.met.H.Seat.Seat.pass_is c.self.inside.seat c.put_as.new.pass in
    rw (left) (rw (map_is, pass_is) at c.put_as.ensures)
