use Rattle.std.proofs.Common.{◌≡◌, rules}
use Rattle.clients.proofs.client.ClientOf.fold.Goals as goal

pub returns-clause-folded : goal.returns-clause-folded
returns-clause-folded g c =
    let map_is : c.map.result.now ≡ c.args.self.now.map = search rules in
    let pass_is : c.pass_mut.result.now ≡ c.args.self.now.pass = search rules in
    let left = g.met.H.Seat.Seat.pass_is c.self.inside.seat c.fold_all.new.pass in
    let (visits, whole, folds) = c.in_ok-total.ensures.folded in
    rw (left) ((visits, rw (map_is, pass_is) at whole, (_, folds)))
