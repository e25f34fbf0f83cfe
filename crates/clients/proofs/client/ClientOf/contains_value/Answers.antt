use Rattle.std.proofs.Common.{◌≡◌, rules}
use Rattle.clients.proofs.client.ClientOf.contains_value.Goals as goal

pub returns-clause-found : goal.returns-clause-found
returns-clause-found g c =
    let map_is : c.map.result.now ≡ c.args.self.now.map = search rules in
    let pass_is : c.pass_mut.result.now ≡ c.args.self.now.pass = search rules in
    let left = g.met.H.Seat.Seat.pass_is c.self.inside.seat c.find_value.new.pass in
    rw (left) (rw (map_is, pass_is) at c.find_value.ensures.found)

pub returns-clause-none : goal.returns-clause-none
returns-clause-none g c =
    let map_is : c.map.result.now ≡ c.args.self.now.map = search rules in
    let pass_is : c.pass_mut.result.now ≡ c.args.self.now.pass = search rules in
    let left = g.met.H.Seat.Seat.pass_is c.self.inside.seat c.find_value.new.pass in
    rw (left) (rw (map_is, pass_is) at c.find_value.ensures.none)
