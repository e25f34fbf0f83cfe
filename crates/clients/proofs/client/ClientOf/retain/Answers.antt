use Rattle.std.proofs.Common.{◌≡◌, rules}
use Rattle.std.proofs.lemmas.Result.{IfErr-weaker, on_ok_weaker}
use Rattle.clients.proofs.client.ClientOf.retain.Goals as goal

pub returns-clause-retained : goal.returns-clause-retained
returns-clause-retained g c =
    let map_is : c.map.result.now ≡ c.args.self.now.map = search rules in
    let pass_is : c.pass_mut.result.now ≡ c.args.self.now.pass = search rules in
    let left = g.met.H.Seat.Seat.pass_is c.self.inside.seat c.retain.new.pass in
    rw (left) (on_ok_weaker c.retain.result (λ are. (c.retain.new.keeps, are))
    (rw (map_is, pass_is) at c.retain.ensures.retained))

pub returns-clause-stopped : goal.returns-clause-stopped
returns-clause-stopped g c =
    let map_is : c.map.result.now ≡ c.args.self.now.map = search rules in
    let pass_is : c.pass_mut.result.now ≡ c.args.self.now.pass = search rules in
    let left = g.met.H.Seat.Seat.pass_is c.self.inside.seat c.retain.new.pass in
    rw (left) (IfErr-weaker c.retain.result _ _ (λ e are. (c.retain.new.keeps, are))
    (rw (map_is, pass_is) at c.retain.ensures.stopped))
