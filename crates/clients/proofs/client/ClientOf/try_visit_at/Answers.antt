use Rattle.std.proofs.Common.{◌≡◌, rules}
use Rattle.clients.proofs.client.ClientOf.try_visit_at.Goals as goal

pub returns-clause-come : goal.returns-clause-come
returns-clause-come g c = c.try_visit_at.ensures.come

pub returns-clause-visit : goal.returns-clause-visit
returns-clause-visit g c =
    let map_is : c.map.result.now ≡ c.args.self.now.map = search rules in
    let pass_is : c.pass_mut.result.now ≡ c.args.self.now.pass = search rules in
    let left = g.met.H.Seat.Seat.pass_is c.self.inside.seat c.try_visit_at.new.pass in
    rw (left) (rw (map_is, pass_is) at c.try_visit_at.ensures.visit)
