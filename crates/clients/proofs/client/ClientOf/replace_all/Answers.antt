use Rattle.std.proofs.Common.{◌≡◌, ap, ◌∙◌, rules}
use Rattle.count_ledger.specs.Views.{PassView}
use Rattle.clients.proofs.client.ClientOf.replace_all.Goals as goal

pub returns-clause-replaced : goal.returns-clause-replaced
returns-clause-replaced g c =
    let map_is : c.map.result.now ≡ c.args.self.now.map = search rules in
    let pass_is : c.pass_mut.result.now ≡ c.args.self.now.pass = search rules in
    let left = g.met.H.Seat.Seat.pass_is c.self.inside.seat c.replace_walk.new.pass in
    rw (left) (rw (map_is, pass_is) at c.replace_walk.ensures.replaced)

pub returns-clause-stopped : goal.returns-clause-stopped
returns-clause-stopped g c =
    let map_is : c.map.result.now ≡ c.args.self.now.map = search rules in
    let pass_is : c.pass_mut.result.now ≡ c.args.self.now.pass = search rules in
    let left = g.met.H.Seat.Seat.pass_is c.self.inside.seat c.replace_walk.new.pass in
    rw (left) (rw (map_is, pass_is) at c.replace_walk.ensures.stopped)

pub invariant_of-self : goal.invariant_of-self
invariant_of-self g c =
    let ledger = c.replace_walk.ensures.ledger ∙ ap (λ (p : PassView _ _ _). p.ledger) c.pass_mut.ensures.pass in
    let client = c.replace_walk.ensures.client ∙ ap (λ (p : PassView _ _ _). p.client) c.pass_mut.ensures.pass in
    g.met.H.Holder.fits_still c.self.inside.holder c.self.inside.seat c.replace_walk.new.pass ledger client c.self.invariant
