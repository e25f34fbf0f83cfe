use Rattle.std.proofs.Common.{◌≡◌, ap, ◌∙◌}
use Rattle.bin_history.specs.Calls.{after}
use Rattle.hashkeys.specs.Hashing.{hash_of}
use Rattle.chm.specs.Views.{MapView, bins_of}
use Rattle.chm.proofs.Visiting.{IsShown-glanced}
use Rattle.chm.proofs.map.Map.glance_as.Goals as goal

pub returns-clause-shown : goal.returns-clause-shown
returns-clause-shown g c =
    let home : c.self.inside.bins ≡ bins_of c.args.self.now =
    (λ i. record {
      ledger = c.self.invariant.id i;
      form = c.self.invariant.form i;
      salt = c.self.invariant.salt i;
      n =
          c.self.inside.bins.n;
    })
    ∙ ap (λ (m : MapView _ _). bins_of m) c.self.view_is in
    let hashed = c.hash_of_as-hash.ensures.hash ∙ (λ i. hash_of (c.salt.ensures i) (g.K.HashKey.code (g.Q.AsKey.stands_for c.args.query))) in
    IsShown-glanced g.K.PartialEq.eq g.K.HashKey.code (after g.V.PartialEq.eq g.F.Remap.remapped g.F.Remap.merged)
    c.args.self.now c.self.inside.bins (g.Q.AsKey.stands_for c.args.query) c.in_ok-glance_as.field-0 c.hash_of_as-hash.result
    home hashed c.in_ok-glance_as.ensures.glanced
