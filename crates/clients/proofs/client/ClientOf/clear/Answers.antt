use Rattle.std.proofs.Common.{◌≡◌, rules}
use Rattle.clients.proofs.client.ClientOf.clear.Goals as goal

pub returns-clause-cleared : goal.returns-clause-cleared
returns-clause-cleared g c =
    let map_is : c.map.result.now ≡ c.args.self.now.map = search rules in
    let pass_is : c.pass_mut.result.now ≡ c.args.self.now.pass = search rules in
    let left = g.met.H.Seat.Seat.pass_is c.self.inside.seat c.clear.new.pass in
    rw (left) (rw (map_is, pass_is) at c.clear.ensures.cleared)

pub returns-clause-emptied : goal.returns-clause-emptied
returns-clause-emptied g c =
    let map_is : c.map.result.now ≡ c.args.self.now.map = search rules in
    let left = g.met.H.Seat.Seat.pass_is c.self.inside.seat c.clear.new.pass in
    rw (left) (rw (map_is) at c.clear.ensures.emptied)

pub returns-clause-left : goal.returns-clause-left
returns-clause-left g c =
    let map_is : c.map.result.now ≡ c.args.self.now.map = search rules in
    let left = g.met.H.Seat.Seat.pass_is c.self.inside.seat c.clear.new.pass in
    rw (left) (rw (map_is) at c.clear.ensures.left)

pub returns-clause-full : goal.returns-clause-full
returns-clause-full g c =
    let map_is : c.map.result.now ≡ c.args.self.now.map = search rules in
    let left = g.met.H.Seat.Seat.pass_is c.self.inside.seat c.clear.new.pass in
    rw (left) (rw (map_is) at c.clear.ensures.full)
