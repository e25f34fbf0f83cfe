use Rattle.std.proofs.Common.{◌≡◌, rules}
use Rattle.clients.proofs.client.ClientOf.look_up.Goals as goal

pub returns-clause-seen : goal.returns-clause-seen
returns-clause-seen g c =
    let map_is : c.map.result.now ≡ c.args.self.now.map = search rules in
    let pass_is : c.pass_mut.result.now ≡ c.args.self.now.pass = search rules in
    let left = g.met.H.Seat.Seat.pass_is c.self.inside.seat c.look_up.new.pass in
    rw (left) (rw (map_is, pass_is) at c.look_up.ensures.seen)

pub returns-clause-found : goal.returns-clause-found
returns-clause-found g c =
    let map_is : c.map.result.now ≡ c.args.self.now.map = search rules in
    let left = g.met.H.Seat.Seat.pass_is c.self.inside.seat c.look_up.new.pass in
    rw (left) (rw (map_is) at c.look_up.ensures.found)
