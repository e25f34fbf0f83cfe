use Rattle.std.proofs.Common.{◌≡◌, rules, subst}
use Rattle.count_ledger.specs.Views.{PassView}
use Rattle.chm.specs.Updates.{IsUpdate}
use Rattle.chm.specs.Views.{MapView}
use Rattle.clients.proofs.client.ClientOf.update.Goals as goal

pub returns-clause-updated : goal.returns-clause-updated
returns-clause-updated g c =
    let map_is : c.map.result.now ≡ c.args.self.now.map = search rules in
    let pass_is : c.pass_mut.result.now ≡ c.args.self.now.pass = search rules in
    let left = g.met.H.Seat.Seat.pass_is c.self.inside.seat c.update.new.pass in
    rw (left) (subst (λ (m : MapView _ _). IsUpdate g.K.PartialEq.eq g.V.PartialEq.eq g.F.Remap.remapped g.F.Remap.merged
    (goal.G-post g c.args.f) m.ledger c.args.key c.args.self.now.pass c.update.new.pass c.update.result) map_is
    (subst (λ (p : PassView _ _ _). IsUpdate g.K.PartialEq.eq g.V.PartialEq.eq g.F.Remap.remapped g.F.Remap.merged
    (goal.G-post g c.args.f) c.map.result.now.ledger c.args.key p c.update.new.pass c.update.result) pass_is
    c.update.ensures))
